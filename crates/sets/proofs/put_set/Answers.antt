use mathlib.Core.Path.{◌≡◌, sym, ap, ap₂, ◌∙◌}
use mathlib.Core.List.{List}
use native.Mathlib.Nat.{add_comm}
use native.Mathlib.Omega.{arith}
use Prim.Native.Nat.{ℕ}
use lib.ListN.{set}
use Rattle.words.specs.Bytes.{over, byte_of, series}
use Rattle.words.proofs.Lists.{over_none, length_series, series_more}
use Rattle.sets.specs.Sets.{length_of}
use Rattle.sets.proofs.SetLaws.{length_short}
use Rattle.sets.proofs.put_set.Goals as goal

pub loop-i-init : goal.loop-i-init
unfolding series
loop-i-init c = sym (over_none _)

pub bounds-out-i : goal.bounds-out-i
bounds-out-i c = omega (arith, c.length_of-n.ensures, length_short c.args.set)

pub loop-i-preserved : goal.loop-i-preserved
loop-i-preserved c =
    let l = c.loop-i in
    let a = c.args in
    ap₂ (λ (t : List ℕ) (x : ℕ). set t l.i x) l.invariant (c.byte_of.ensures ∙ ap (byte_of a.set) (add_comm l.i 1))
    ∙ series_more (byte_of a.set) 1 l.i a.out.now (omega (arith, c.length_of-n.ensures, length_short a.set))

pub returns : goal.returns
returns c =
    let l = c.loop-i in
    let a = c.args in
    let n = c.length_of-n.ensures in
    let all : l.i ≡ length_of a.set = omega (arith, n) in (
      n ∙ sym (length_series (byte_of a.set) 1 (length_of a.set)),
      l.invariant ∙ ap (λ (k : ℕ). over (series (byte_of a.set) 1 k) a.out.now) all,
      omega (arith, n, length_short a.set),
    )
