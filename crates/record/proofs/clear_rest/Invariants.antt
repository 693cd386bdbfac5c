-- `clear_rest` meets its contract. The loop's invariant: so many bytes of 00h were stored from byte 17 on.
use mathlib.Core.Path.{◌≡◌}
use Prim.Native.Nat.{◌-◌}
use lib.ListN.{replicate}
use lib.Seq.{sets}
use Rattle.record.proofs.clear_rest.Given as goal

abbrev pub invariant-loop-i : goal.invariant-loop-i
invariant-loop-i l = l.raw ≡ sets l.initial.raw 17 (replicate (l.i - 17) 0)
