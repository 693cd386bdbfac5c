-- `write_round` meets its contract. The loop's invariant: what is left to write gives the whole.
use mathlib.Core.Path.{◌≡◌}
use Prim.Native.Nat.{◌+◌, ◌≤◌}
use lib.ListN.{length}
use Rattle.pages.specs.Pages.{page_write}
use Rattle.pages.proofs.write_round.Given as goal

abbrev pub invariant-loop-left : goal.invariant-loop-left
invariant-loop-left l = record {
  cut : l.start ≤ l.a;
  inside : l.a + length l.left ≤ length l.image;
  same_length : length l.image ≡ length l.initial.image;
  whole : page_write l.reader l.chip l.initial.image l.at l.at l.data ≡ page_write l.reader l.chip l.image l.start l.a l.left;
}

abbrev pub decreases-loop-left : goal.decreases-loop-left
decreases-loop-left l = length l.left
