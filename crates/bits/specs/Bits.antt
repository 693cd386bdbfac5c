-- Protection bits: of a byte, the first protected one of a range, a byte protected, bits packed into bytes.
use Rattle.std.specs.Prelude.{ℕ, zero, suc, ◌+◌, ◌-◌, ◌*◌, ◌/◌, ◌%◌, ◌^◌, Bool, false, List, [], ◌∷◌, take, drop, set, ltb, Option, Some, None}
use Rattle.words.specs.Choice.{◌⇒◌⁏◌, ◌and◌, ◌or◌, ◌is◌}
use Rattle.words.specs.Bytes.{byte, series}

-- bit i of a byte, and the byte with that bit 0
abbrev pub bit_of : ℕ → ℕ → ℕ
bit_of b i = b / 2 ^ i % 2

unfoldable pub cleared : ℕ → ℕ → ℕ
cleared b i = b - bit_of b i * 2 ^ i

-- a run of bytes from `at` on carries the value x for byte k
unfoldable pub carries : ℕ → List ℕ → ℕ → ℕ → Bool
carries at [] k x = false
carries at (v ∷ vs) k x = at is k and x is v or carries (at + 1) vs k x

-- how many of a number's n lowest bits are 0, and how many of all bits of bytes
unfoldable pub zero_bits : ℕ → ℕ → ℕ
zero_bits zero b = 0
zero_bits (suc n) b = 1 - b % 2 + zero_bits n (b / 2)

unfoldable pub zeros_of : List ℕ → ℕ
zeros_of [] = 0
zeros_of (b ∷ bs) = zero_bits 8 b + zeros_of bs

-- In an image whose protection bytes start at `bits` and hold a bit for each of the first `covered` memory bytes:
module _ (bits covered : ℕ) where
  -- "byte k's protection bit is bit k mod 8 of protection byte k/8"; 1 for a byte that has none
  unfoldable pub protection_bit : List ℕ → ℕ → ℕ
  protection_bit image k = ltb k covered ⇒ bit_of (byte image (bits + k / 8)) (k % 8) ⁏ 1

  -- "0 means protected"
  unfoldable pub is_protected : List ℕ → ℕ → Bool
  is_protected image k = protection_bit image k is 0

  -- 02: "number of protected bytes": the zero bits of the protection bytes
  unfoldable pub protected_count : List ℕ → ℕ
  protected_count image = zeros_of (take (covered / 8) (drop bits image))

  -- the first protected one of n bytes from k on: "the first protected byte in the range ends the search"
  unfoldable pub first_protected : List ℕ → ℕ → ℕ → Option ℕ
  first_protected image k zero = None
  first_protected image k (suc n) = let r = first_protected image (k + 1) n in is_protected image k ⇒ Some k ⁏ r

  -- the image with byte k's protection bit 0
  unfoldable pub protecting : List ℕ → ℕ → List ℕ
  protecting image k = set image (bits + k / 8) (cleared (byte image (bits + k / 8)) (k % 8))

  -- "for each byte equal to the stored one, its protection bit becomes 0; others are passed over"
  unfoldable pub protect_equal : List ℕ → ℕ → List ℕ → List ℕ
  protect_equal image k [] = image
  protect_equal image k (v ∷ vs) = protect_equal (byte image k is v ⇒ protecting image k ⁏ image) (k + 1) vs

  -- n protection bits from byte k on, as one number: the first in its bit 0
  unfoldable pub packed : List ℕ → ℕ → ℕ → ℕ
  packed image k zero = 0
  packed image k (suc n) = protection_bit image k + 2 * packed image (k + 1) n

  -- "protection bits from the address on, first one in bit 0 of the first byte": n bytes of eight bits each
  unfoldable pub packed_bytes : List ℕ → ℕ → ℕ → List ℕ
  packed_bytes image k n = series (λ (j : ℕ). packed image (k + 8 * j) 8) 0 n
