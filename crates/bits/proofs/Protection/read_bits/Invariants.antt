-- `read_bits` meets its contract: whole protection bytes are laid, else each byte is made of two, eight at a time. Both loops' invariant: so many bytes of bits.
use mathlib.Core.Path.{◌≡◌}
use Prim.Native.Nat.{ℕ, ◌+◌, ◌*◌}
use Rattle.words.specs.Bytes.{over, series}
use Rattle.bits.specs.Bits.{packed}
use Rattle.bits.proofs.Protection.read_bits.Given as goal

abbrev pub invariant-loop-i : goal.invariant-loop-i
invariant-loop-i l = l.out ≡ over (series (λ (k : ℕ). packed l.fn.self.bits l.fn.self.covered l.image (l.at + 8 * k) 8) 0 (8 * l.i)) l.fn.out

abbrev pub invariant-loop-j : goal.invariant-loop-j
invariant-loop-j l = l.out ≡ over (series (λ (k : ℕ). packed l.fn.self.bits l.fn.self.covered l.image (l.at + 8 * k) 8) 0 l.j) l.fn.out
