-- `store_unprotected` meets its contract. The loop's invariant: what is left to store gives the whole, and what was seen so far with what is left
-- of the range gives the report.
use mathlib.Core.Path.{◌≡◌}
use Prim.Native.Nat.{◌+◌, ◌-◌, ◌≤◌}
use lib.ListN.{length, drop}
use Rattle.words.specs.Choice.{◌and◌}
use Rattle.stores.specs.Stores.{storing, ends_equal}
use Rattle.stores.proofs.store_unprotected.Given as goal

abbrev pub invariant-loop-k : goal.invariant-loop-k
invariant-loop-k l =
    let whole = storing l.protection.bits l.protection.covered l.fn.image l.at l.data in
    (l.i ≤ length l.data)
    × (whole ≡ storing l.protection.bits l.protection.covered l.image (l.at + l.i) (drop l.i l.data))
    × (ends_equal whole l.at l.data ≡ (l.equal and ends_equal whole (l.at + l.i) (drop l.i l.data)))

abbrev pub decreases-loop-k : goal.decreases-loop-k
decreases-loop-k l = length l.data - l.i
