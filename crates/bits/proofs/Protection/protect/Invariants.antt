-- `protect` meets its contract. The loop's invariant: what is left to do gives the whole, and so many bytes more are protected.
use mathlib.Core.Path.{◌≡◌}
use Prim.Native.Nat.{◌+◌, ◌≤◌}
use lib.ListN.{drop}
use Rattle.bits.specs.Bits.{protected_count, protect_equal}
use Rattle.bits.proofs.Protection.protect.Given as goal

abbrev pub invariant-loop-i : goal.invariant-loop-i
invariant-loop-i l =
    (protect_equal l.self.bits l.self.covered l.fn.image l.at l.data ≡ protect_equal l.self.bits l.self.covered l.image (l.at + l.i) (drop l.i l.data))
    × (protected_count l.self.bits l.self.covered l.image ≡ protected_count l.self.bits l.self.covered l.fn.image + l.more)
    × (l.more ≤ l.i)
