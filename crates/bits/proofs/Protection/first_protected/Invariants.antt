-- `first_protected` meets its contract. The loop's invariant: the search is in the range, and its answer is that from here on, which ends with the bits.
use mathlib.Core.Path.{◌≡◌}
use Prim.Native.Nat.{◌-◌, ◌≤◌}
use Rattle.bits.specs.Bits.{first_protected}
use Rattle.bits.proofs.Protection.first_protected.Given as goal

abbrev pub invariant-loop-k : goal.invariant-loop-k
invariant-loop-k l =
    let bits = l.self.bits in
    let covered = l.self.covered in
    (l.«from» ≤ l.k) × (l.to ≤ covered)
    × (first_protected bits covered l.image l.«from» l.n ≡ first_protected bits covered l.image l.k (l.to - l.k))

abbrev pub decreases-loop-k : goal.decreases-loop-k
decreases-loop-k l = l.to - l.k
