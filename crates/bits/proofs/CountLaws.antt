-- Laws of the number of protected bytes: of zero bits in a number and in bytes, of a byte stored and of a bit cleared; what leaves the protection
-- bytes leaves the number.
use mathlib.Core.Path.{◌≡◌, sym, ap, ◌∙◌}
use mathlib.Core.List.{List, [], ◌∷◌}
use Prim.Native.Nat.{ℕ, zero, suc, ◌+◌, ◌-◌, ◌*◌, ◌/◌, ◌%◌, ◌^◌, ◌≤◌, ◌<◌}
use native.Mathlib.Nat.{pow-suc}
use native.Mathlib.Omega.{arith}
use lib.Count.{ones, ones_step}
use lib.ListN.{length, take, drop, set, length-drop, length-take}
use lib.Seq.{drop-cons, drop-length, drop-set-add, take-set-lt, get_or-take, get_or-drop, ext_get_or}
use Rattle.words.specs.Bytes.{byte}
use Rattle.bits.specs.Bits.{bit_of, cleared, zero_bits, zeros_of, protected_count, protecting}
use Rattle.bits.proofs.BitLaws.{bit_half, clear_half}

-- ---- the zero bits of a number
-- with those that are 1 they are all of its bits
pub zeros_ones : (n b : ℕ) → b < 2 ^ n → zero_bits n b + ones b ≡ n
unfolding zero_bits ones
zeros_ones zero b h = let e : b ≡ 0 = omega arith in omega (arith, ap ones e)
zeros_ones (suc n) b h =
    let later : zero_bits n (b / 2) + ones (b / 2) ≡ n = zeros_ones n (b / 2) (omega (arith, pow-suc 2 n)) in
    omega (arith, later, ones_step b)

zeros_within : (n b : ℕ) → zero_bits n b ≤ n
unfolding zero_bits
zeros_within zero b = omega arith
zeros_within (suc n) b = omega (arith, zeros_within n (b / 2))

-- a bit cleared is one more, where it was 1
zeros_cleared : (n b i : ℕ) → i < n → zero_bits n (cleared b i) ≡ zero_bits n b + bit_of b i
unfolding zero_bits cleared
zeros_cleared zero b i h = absurd (omega arith)
zeros_cleared (suc n) b zero h = let e : (b - b / 1 % 2 * 1) / 2 ≡ b / 2 = omega arith in omega (arith, ap (zero_bits n) e)
zeros_cleared (suc n) b (suc i) h =
    let half : cleared b (suc i) / 2 ≡ cleared (b / 2) i = omega (arith, clear_half b i) in
    let low : cleared b (suc i) % 2 ≡ b % 2 = omega (arith, clear_half b i) in
    omega (arith, ap (zero_bits n) half, low, zeros_cleared n (b / 2) i (omega arith), bit_half b i)

-- ---- of bytes
pub zeros_few : (l : List ℕ) → zeros_of l ≤ 8 * length l
unfolding zeros_of
zeros_few [] = omega arith
zeros_few (b ∷ l) = omega (arith, zeros_within 8 b, zeros_few l)

-- one byte, and the rest
pub zeros_step : (l : List ℕ) (i j : ℕ) → j ≡ i + 1 → i < length l → zeros_of (drop i l) ≡ zero_bits 8 (byte l i) + zeros_of (drop j l)
unfolding zeros_of
zeros_step l i j e h = let q : suc i ≡ j = omega arith in ap zeros_of (drop-cons l i 0 h) ∙ ap (λ (k : ℕ). zero_bits 8 (byte l i) + zeros_of (drop k l)) q

pub zeros_end : (l : List ℕ) → zeros_of (drop (length l) l) ≡ 0
unfolding zeros_of
zeros_end l = ap zeros_of (drop-length l)

-- a byte stored for another
zeros_set : (l : List ℕ) (i v : ℕ) → i < length l → zeros_of (set l i v) + zero_bits 8 (byte l i) ≡ zeros_of l + zero_bits 8 v
unfolding zeros_of
zeros_set [] i v h = absurd (omega arith)
zeros_set (b ∷ l) zero v h = omega arith
zeros_set (b ∷ l) (suc i) v h = omega (arith, zeros_set l i v (omega arith))

-- ---- of an image
module _ (bits covered : ℕ) where
  pub count_within : (image : List ℕ) → protected_count bits covered image ≤ covered
  unfolding protected_count
  count_within image = omega (arith, zeros_few (take (covered / 8) (drop bits image)), length-take (covered / 8) (drop bits image))

  -- what leaves the protection bytes leaves the number
  pub count_same : (image image' : List ℕ) → length image' ≡ length image → ((j : ℕ) → j < covered / 8 → byte image' (bits + j) ≡ byte image (bits + j))
      → protected_count bits covered image' ≡ protected_count bits covered image
  unfolding protected_count
  count_same image image' e h =
      let n : ℕ = covered / 8 in
      let long : length (take n (drop bits image')) ≡ length (take n (drop bits image)) =
      omega (arith, length-take n (drop bits image'), length-take n (drop bits image), length-drop bits image', length-drop bits image) in
      ap zeros_of
      (ext_get_or 0 _ _ long
      (λ j l.
      let b : j < n = omega (arith, l, length-take n (drop bits image')) in
      get_or-take n (drop bits image') j 0 b ∙ get_or-drop bits image' j 0 ∙ h j b ∙ sym (get_or-take n (drop bits image) j 0 b ∙ get_or-drop bits image j 0)))

  -- a byte protected is one more, where it was not
  pub count_protecting : (image : List ℕ) (k : ℕ) → k < covered → covered % 8 ≡ 0 → bits + covered / 8 ≤ length image
      → protected_count bits covered (protecting bits covered image k) ≡ protected_count bits covered image + bit_of (byte image (bits + k / 8)) (k % 8)
  unfolding protected_count protecting
  count_protecting image k h e l =
      let n : ℕ = covered / 8 in
      let j : ℕ = k / 8 in
      let old : ℕ = byte image (bits + j) in
      let new : ℕ = cleared old (k % 8) in
      let part : List ℕ = take n (drop bits image) in
      let below : j < n = omega arith in
      let moved : take n (drop bits (set image (bits + j) new)) ≡ set part j new =
      ap (take n) (drop-set-add bits image j new) ∙ take-set-lt n (drop bits image) j new below in
      let was : byte part j ≡ old = get_or-take n (drop bits image) j 0 below ∙ get_or-drop bits image j 0 in
      let inside : j < length part = omega (arith, below, length-take n (drop bits image), length-drop bits image) in
      omega (arith, ap zeros_of moved, zeros_set part j new inside, ap (zero_bits 8) was, zeros_cleared 8 old (k % 8) (omega arith))
