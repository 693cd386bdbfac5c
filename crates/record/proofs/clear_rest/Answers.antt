use mathlib.Core.Path.{◌≡◌, ap, ◌∙◌}
use native.Mathlib.Omega.{arith}
use Prim.Native.Nat.{ℕ, ◌-◌}
use mathlib.Core.List.{List}
use lib.ListN.{set, replicate}
use lib.Seq.{sets}
use Rattle.record.proofs.RawLaws.{rest_more}
use Rattle.record.proofs.clear_rest.Goals as goal

pub loop-i-preserved : goal.loop-i-preserved
loop-i-preserved c =
    let l = c.loop-i in
    ap (λ (t : List ℕ). set t l.i 0) l.invariant ∙ rest_more c.args.raw.now l.i (omega arith)

pub returns : goal.returns
returns c =
    let l = c.loop-i in
    let e : l.i - 17 ≡ 15 = omega arith in
    l.invariant ∙ ap (λ (n : ℕ). sets c.args.raw.now 17 (replicate n 0)) e
