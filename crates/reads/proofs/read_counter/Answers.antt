-- `read_counter` meets its contract: the counter and two bytes 00h, or three.
use mathlib.Core.Path.{◌≡◌, sym, ap, ◌∙◌}
use mathlib.Core.List.{[], ◌∷◌}
use native.Mathlib.Omega.{arith}
use Prim.Native.Nat.{ℕ}
use lib.Seq.{sets-eq}
use Rattle.words.specs.Bytes.{byte, over}
use Rattle.reads.specs.Reads.{counter_read}
use Rattle.reads.proofs.read_counter.Goals as goal

pub returns-then-n-gt3 : goal.returns-then-n-gt3
unfolding over counter_read
returns-then-n-gt3 c =
    let a = c.args in
    let e : a.n ≡ 4 = omega arith in
    sets-eq (byte a.image.now a.counter ∷ 0 ∷ 0 ∷ 0 ∷ []) a.out.now 0 (omega arith)
    ∙ ap (λ (n : ℕ). over (counter_read a.counter a.image.now n) a.out.now) (sym e)

pub returns-else-n-gt3 : goal.returns-else-n-gt3
unfolding over counter_read
returns-else-n-gt3 c =
    let a = c.args in
    let e : a.n ≡ 3 = omega arith in
    sets-eq (byte a.image.now a.counter ∷ 0 ∷ 0 ∷ []) a.out.now 0 (omega arith)
    ∙ ap (λ (n : ℕ). over (counter_read a.counter a.image.now n) a.out.now) (sym e)
