-- `slide` meets its contract: where the bytes stand at the front they stay, else they are copied there.
use mathlib.Core.Path.{◌≡◌, sym, ap, ap₂, ◌∙◌}
use native.Mathlib.Omega.{arith}
use Prim.Native.Nat.{ℕ, ◌+◌, ◌-◌}
use mathlib.Core.List.{List, ◌++◌}
use lib.ListN.{length, take, drop, length-drop}
use lib.Seq.{length-take-le}
use Rattle.words.specs.Bytes.{over}
use Rattle.words.proofs.Lists.{over_front}
use Rattle.input.proofs.slide.Goals as goal

pub returns-then-at-eq0 : goal.returns-then-at-eq0
returns-then-at-eq0 c =
    let a = c.args in
    sym (ap (λ (k : ℕ). over (take a.n (drop k a.input.now)) a.input.now) c.if-at-eq0.true ∙ over_front a.n a.input.now (omega arith))

pub returns : goal.returns
unfolding over
returns c =
    let a = c.args in
    let d : List ℕ = a.input.now in
    let n : a.at + a.n - a.at ≡ a.n = omega arith in
    let behind : 0 + (a.at + a.n - a.at) ≡ length (take a.n (drop a.at d)) = omega (arith, length-take-le a.n (drop a.at d), length-drop a.at d) in
    c.copy_within.ensures.after ∙ ap₂ (λ (k m : ℕ). take k (drop a.at d) ++ drop m d) n behind
