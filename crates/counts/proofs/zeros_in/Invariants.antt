-- `zeros_in` meets its contract. The loop's invariant: with those of what is left, the end of the bytes, they are the whole.
use mathlib.Core.Path.{◌≡◌}
use Prim.Native.Nat.{◌+◌, ◌-◌, ◌≤◌, ◌%◌}
use lib.ListN.{length, drop}
use Rattle.bits.specs.Bits.{zeros_of}
use Rattle.counts.proofs.zeros_in.Given as goal

abbrev pub invariant-loop-eight : goal.invariant-loop-eight
invariant-loop-eight l =
    let rest = l.eight-iterator.rest.now in
    (l.eight-iterator.size ≡ 8) × (length rest ≤ length l.bytes) × (length rest % 8 ≡ length l.bytes % 8)
    × (rest ≡ drop (length l.bytes - length rest) l.bytes) × (l.zeros + zeros_of rest ≡ zeros_of l.bytes)
