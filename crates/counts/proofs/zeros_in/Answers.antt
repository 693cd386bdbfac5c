-- Eight bytes that are taken stood in front of what was left, and what is left has so many zeros less.
use mathlib.Core.Path.{◌≡◌, sym, ap, ◌∙◌}
use native.Mathlib.Omega.{arith}
use Prim.Native.Nat.{ℕ, ◌+◌, ◌-◌}
use lib.Count.{ones}
use lib.ListN.{length, drop}
use Rattle.bits.specs.Bits.{zeros_of}
use Rattle.counts.proofs.ZeroLaws.{Taken, front_taken}
use Rattle.counts.proofs.zeros_in.Goals as goal

pub loop-eight-preserved : goal.loop-eight-preserved
loop-eight-preserved c =
    let l = c.loop-eight in
    let b = c.args.bytes.now in
    let rest = c.next.new.self.rest.now in
    let before = length b - length l.eight-iterator.rest.now in
    let step = c.in-Some.ensures.steps in
    let front : Taken b before c.in-Some.eight.now rest =
    front_taken b (λ k. omega (arith, c.type_inv.bytes k)) before c.in-Some.eight.now rest (sym l.invariant.3 ∙ step.1.0) (step.1.1 ∙ l.invariant.0) in
    let next : before + 8 ≡ length b - length rest = omega (arith, front.long) in (
      step.0 ∙ l.invariant.0,
      omega (arith, front.long),
      omega (arith, front.long, l.invariant.1, l.invariant.2),
      front.behind ∙ ap (λ (k : ℕ). drop k b) next,
      omega (arith, ap ones c.eight_at.ensures, front.few, front.zeros, ap zeros_of l.invariant.3, l.invariant.4),
    )
