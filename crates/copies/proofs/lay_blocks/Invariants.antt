-- `lay_blocks` meets its contract. The loop's invariant: so many bytes of the source, and behind them the buffer as it was.
use mathlib.Core.Path.{◌≡◌}
use Prim.Native.Nat.{◌-◌, ◌≤◌}
use mathlib.Core.List.{◌++◌}
use lib.ListN.{length, take, drop}
use Rattle.copies.proofs.lay_blocks.Given as goal

abbrev pub invariant-loop-i : goal.invariant-loop-i
invariant-loop-i g l = record {
  inside : l.i ≤ length l.src;
  same_length : length l.dst ≡ length l.initial.dst;
  laid : l.dst ≡ take l.i l.src ++ drop l.i l.initial.dst;
}

abbrev pub decreases-loop-i : goal.decreases-loop-i
decreases-loop-i g l = length l.src - l.i
