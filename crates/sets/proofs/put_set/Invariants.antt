-- `put_set` meets its contract. The loop's invariant: so many bytes of the set stand in front.
use mathlib.Core.Path.{◌≡◌}
use Rattle.words.specs.Bytes.{over, byte_of, series}
use Rattle.sets.proofs.put_set.Given as goal

abbrev pub invariant-loop-i : goal.invariant-loop-i
invariant-loop-i l = l.out ≡ over (series (byte_of l.set) 1 l.i) l.initial.out
