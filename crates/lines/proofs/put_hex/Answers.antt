use mathlib.Core.Path.{◌≡◌, refl, sym, ap, ap₂, ◌∙◌}
use native.Mathlib.Omega.{arith}
use Prim.Native.Nat.{ℕ, ◌+◌}
use mathlib.Core.List.{List}
use lib.ListN.{length, take, set}
use lib.Seq.{take-length}
use Rattle.words.specs.Bytes.{over}
use Rattle.words.proofs.Lists.{over_none}
use Rattle.lines.specs.Lines.{hex}
use Rattle.lines.proofs.LineLaws.{hex_more, hex_whole}
use Rattle.lines.proofs.put_hex.Goals as goal

pub loop-b-init : goal.loop-b-init
unfolding hex
loop-b-init c = (refl, sym (over_none _))

pub loop-b-preserved : goal.loop-b-preserved
loop-b-preserved c =
    let l = c.loop-b in
    let high = c.digit in
    let low = c.digit-in-loop-b in
    let t = c.put_two-at.ensures in
    let b : List ℕ = c.args.bytes.now in
    let o : List ℕ = c.args.out.now in (
      omega (arith, t.0, l.invariant.0),
      t.1
          ∙ ap (λ (x : List ℕ). set (set x l.at high.result) (l.at + 1) low.result) l.invariant.1
          ∙ ap₂ (λ (u v : ℕ). set (set (over (hex (take l.b-index b)) o) l.at u) (l.at + 1) v) high.ensures low.ensures
          ∙ hex_more b o l.b-index l.at (omega arith) l.invariant.0 (omega (arith, l.invariant.0)),
    )

pub returns : goal.returns
returns c =
    let l = c.loop-b in
    let e : l.b-index ≡ length c.args.bytes.now = omega arith in
    let b : List ℕ = c.args.bytes.now in
    let o : List ℕ = c.args.out.now in
    hex_whole b (omega (arith, l.invariant.0, e)) (omega (arith, l.invariant.0))
    (l.invariant.1 ∙ ap (λ (k : ℕ). over (hex (take k b)) o) e ∙ ap (λ (t : List ℕ). over (hex t) o) (take-length b))
