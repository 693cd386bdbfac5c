-- `blank` meets its contract. The loop's invariant: so many bytes are blanked.
use mathlib.Core.Path.{◌≡◌}
use Prim.Native.Nat.{◌-◌}
use lib.ListN.{length}
use Rattle.reads.specs.Inner.{blanked}
use Rattle.reads.proofs.blank.Given as goal

abbrev pub invariant-loop-k : goal.invariant-loop-k
invariant-loop-k l = record {
  same_length : length l.out ≡ length l.initial.out;
  blanked_so_far : l.out ≡ blanked l.at l.end l.code (l.k - l.code) l.initial.out;
}
