-- Laws of numbers in bytes, low first; and a test of every number below one, computed.
use mathlib.Core.Path.{◌≡◌, refl, sym, ap, ap₂, ◌∙◌}
use mathlib.Core.List.{List, [], ◌∷◌, ◌++◌}
use Prim.Native.Nat.{ℕ, zero, suc, ◌+◌, ◌-◌, ◌*◌, ◌/◌, ◌%◌, ◌^◌, ◌<◌}
use native.Mathlib.Nat.{pow-suc, zero-lt-suc, mul_comm, div-div-eq-div-mul, one-le-pow, mod-eq_of_lt, add-zero}
use native.Mathlib.Omega.{arith}
use lib.ListN.{length, take, drop}
use lib.Seq.{get_or-drop}
use lib.Arith.{mod-mul}
use lib.Dec.{ltb}
use mathlib.Core.Bool.{Bool, true, false}
use borrow.Author.Tests.{ltb-true, ltb-false}
use Rattle.std.specs.Int.{w32, w64, to_le_bytes, from_le_bytes}
use Rattle.std.proofs.lemmas.List.{get_or-take}
use Rattle.words.specs.Choice.{◌and◌}
use Rattle.words.proofs.Choices.{and_true}
use Rattle.words.specs.Bytes.{AllBytes, byte, four_at, eight_at, number_in, byte_of, low_first, series}

-- ---- the number that the library makes of four bytes
part_byte : (l : List ℕ) (k m i : ℕ) → m ≡ 4 → i < 4 → byte (take 4 (take m (drop k l))) i ≡ byte l (k + i)
part_byte l k m i e h = get_or-take 4 (take m (drop k l)) i 0 h ∙ get_or-take m (drop k l) i 0 (omega arith) ∙ get_or-drop k l i 0

pub four_from : (l : List ℕ) (k m : ℕ) → m ≡ 4 → from_le_bytes w32 (take 4 (take m (drop k l))) ≡ four_at l k
unfolding four_at
four_from l k m e =
    omega (
      arith,
      part_byte l k m 0 e (omega arith),
      ap (byte l) (add-zero k),
      part_byte l k m 1 e (omega arith),
      part_byte l k m 2 e (omega arith),
      part_byte l k m 3 e (omega arith),
    )

-- ---- a number in the eight bytes that the library makes of it
-- byte k of it, and 0 beyond
byte_zero : (k : ℕ) → byte_of 0 k ≡ 0
unfolding byte_of
byte_zero zero = refl
byte_zero (suc k) = byte_zero k

pub byte_low : (n k : ℕ) → n < 2 ^ 64 → byte (to_le_bytes w64 n) k ≡ byte_of n k
unfolding byte_of
byte_low n zero h = refl
byte_low n (suc zero) h = omega arith
byte_low n (suc (suc zero)) h = omega arith
byte_low n (suc (suc (suc zero))) h = omega arith
byte_low n (suc (suc (suc (suc zero)))) h = omega arith
byte_low n (suc (suc (suc (suc (suc zero))))) h = omega arith
byte_low n (suc (suc (suc (suc (suc (suc zero)))))) h = omega arith
byte_low n (suc (suc (suc (suc (suc (suc (suc zero))))))) h = omega arith
byte_low n (suc (suc (suc (suc (suc (suc (suc (suc k)))))))) h =
    let e : n / 256 / 256 / 256 / 256 / 256 / 256 / 256 / 256 ≡ 0 = omega arith in
    sym (ap (λ (m : ℕ). byte_of m k) e ∙ byte_zero k)

-- all of them
pub low_eight : (n : ℕ) → n < 2 ^ 64 → to_le_bytes w64 n ≡ low_first 7 n
unfolding low_first
low_eight n h =
    let e2 : n / 65536 ≡ n / 256 / 256 = omega arith in
    let e3 : n / 16777216 ≡ n / 256 / 256 / 256 = omega arith in
    let e4 : n / 4294967296 ≡ n / 256 / 256 / 256 / 256 = omega arith in
    let e5 : n / 1099511627776 ≡ n / 256 / 256 / 256 / 256 / 256 = omega arith in
    let e6 : n / 281474976710656 ≡ n / 256 / 256 / 256 / 256 / 256 / 256 = omega arith in
    let e7 : n / 72057594037927936 % 256 ≡ n / 256 / 256 / 256 / 256 / 256 / 256 / 256 = omega arith in
    cc

-- ---- eight bytes
-- a number put in eight bytes is read back
pub eight_back : (n : ℕ) (l : List ℕ) → eight_at (low_first 7 n ++ l) 0 ≡ n
unfolding eight_at four_at low_first
eight_back n l = omega arith

-- ---- the number that bytes make
rest_bytes : (x : ℕ) (l : List ℕ) → AllBytes (x ∷ l) → AllBytes l
rest_bytes x l b = record { fits = λ k. b.fits (suc k) }

-- a list that is seen to be bytes
unfoldable pub are_bytes : List ℕ → Bool
are_bytes [] = true
are_bytes (x ∷ l) = ltb x 256 and are_bytes l

are_fits : (l : List ℕ) → are_bytes l ≡ true → (k : ℕ) → byte l k < 256
unfolding are_bytes
are_fits [] e k = omega arith
are_fits (x ∷ l) e zero = ltb-true x 256 (and_true _ _ e).0
are_fits (x ∷ l) e (suc k) = are_fits l (and_true _ _ e).1 k

pub are_bytes_lem : (l : List ℕ) → are_bytes l ≡ true → AllBytes l
are_bytes_lem l e = record { fits = are_fits l e }

series_fits : (f : ℕ → ℕ) → ((k : ℕ) → f k < 256) → (k n i : ℕ) → byte (series f k n) i < 256
unfolding series
series_fits f h k zero i = omega arith
series_fits f h k (suc n) zero = h k
series_fits f h k (suc n) (suc i) = series_fits f h (suc k) n i

pub series_bytes : (f : ℕ → ℕ) → ((k : ℕ) → f k < 256) → (k n : ℕ) → AllBytes (series f k n)
series_bytes f h k n = record { fits = series_fits f h k n }

-- eight bytes read at once
pub eight_number : (l : List ℕ) (k : ℕ) → AllBytes l → eight_at l k ≡ number_in (series (byte l) k 8)
unfolding eight_at four_at number_in series
eight_number l k b =
    let p1 : k + 1 ≡ suc k = omega arith in
    let p2 : k + 2 ≡ suc (suc k) = omega arith in
    let p3 : k + 3 ≡ suc (suc (suc k)) = omega arith in
    let p4 : k + 4 ≡ suc (suc (suc (suc k))) = omega arith in
    let p5 : k + 4 + 1 ≡ suc (suc (suc (suc (suc k)))) = omega arith in
    let p6 : k + 4 + 2 ≡ suc (suc (suc (suc (suc (suc k))))) = omega arith in
    let p7 : k + 4 + 3 ≡ suc (suc (suc (suc (suc (suc (suc k)))))) = omega arith in
    omega (
      arith,
      ap (byte l) p1,
      ap (byte l) p2,
      ap (byte l) p3,
      ap (byte l) p4,
      ap (byte l) p5,
      ap (byte l) p6,
      ap (byte l) p7,
      b.fits k,
      b.fits (suc k),
      b.fits (suc (suc k)),
      b.fits (suc (suc (suc k))),
      b.fits (suc (suc (suc (suc k)))),
      b.fits (suc (suc (suc (suc (suc k))))),
      b.fits (suc (suc (suc (suc (suc (suc k)))))),
      b.fits (suc (suc (suc (suc (suc (suc (suc k))))))),
    )

-- byte i of it is byte i of the list
pub byte_number : (l : List ℕ) (i : ℕ) → byte_of (number_in l) i ≡ byte l i % 256
unfolding byte_of number_in
byte_number [] i = byte_zero i
byte_number (x ∷ l) zero = omega arith
byte_number (x ∷ l) (suc i) =
    let e : (x % 256 + 256 * number_in l) / 256 ≡ number_in l = omega arith in
    ap (λ (n : ℕ). byte_of n i) e ∙ byte_number l i

-- put in as many bytes it is the list again
pub low_number : (k : ℕ) (l : List ℕ) → length l ≡ suc k → AllBytes l → low_first k (number_in l) ≡ l
unfolding low_first number_in
low_number k [] e b = absurd (omega arith)
low_number zero (x ∷ []) e b = let p : x % 256 + 256 * 0 ≡ x = omega (arith, b.fits 0) in ap (λ (n : ℕ). n ∷ []) p
low_number zero (x ∷ y ∷ l) e b = absurd (omega arith)
low_number (suc k) (x ∷ l) e b =
    let p : (x % 256 + 256 * number_in l) % 256 ≡ x = omega (arith, b.fits 0) in
    let q : (x % 256 + 256 * number_in l) / 256 ≡ number_in l = omega arith in
    ap₂ (λ (y n : ℕ). y ∷ low_first k n) p q ∙ ap (λ (t : List ℕ). x ∷ t) (low_number k l (omega arith) (rest_bytes x l b))

-- ---- bytes moved down by less than a byte
-- the lower eight of nine: what moves out of the ninth comes in at the top
pub shift_in : (s low high : ℕ) → 0 < s → s < 8 → low < 256 ^ 8 → low / 2 ^ s + high * 2 ^ (64 - s) % 256 ^ 8 ≡ (low + 256 ^ 8 * high) / 2 ^ s % 256 ^ 8
shift_in zero low high z h b = absurd (omega arith)
shift_in (suc zero) low high z h b = omega arith
shift_in (suc (suc zero)) low high z h b = omega arith
shift_in (suc (suc (suc zero))) low high z h b = omega arith
shift_in (suc (suc (suc (suc zero)))) low high z h b = omega arith
shift_in (suc (suc (suc (suc (suc zero))))) low high z h b = omega arith
shift_in (suc (suc (suc (suc (suc (suc zero)))))) low high z h b = omega arith
shift_in (suc (suc (suc (suc (suc (suc (suc zero))))))) low high z h b = omega arith
shift_in (suc (suc (suc (suc (suc (suc (suc (suc s)))))))) low high z h b = absurd (omega arith)

-- and each byte is made of two neighbours
two_low : (s x y m : ℕ) → s < 8 → (x + 256 * (y % 256 + 256 * m)) / 2 ^ s % 256 ≡ (x + 256 * y) / 2 ^ s % 256
two_low zero x y m h = omega arith
two_low (suc zero) x y m h = omega arith
two_low (suc (suc zero)) x y m h = omega arith
two_low (suc (suc (suc zero))) x y m h = omega arith
two_low (suc (suc (suc (suc zero)))) x y m h = omega arith
two_low (suc (suc (suc (suc (suc zero))))) x y m h = omega arith
two_low (suc (suc (suc (suc (suc (suc zero)))))) x y m h = omega arith
two_low (suc (suc (suc (suc (suc (suc (suc zero))))))) x y m h = omega arith
two_low (suc (suc (suc (suc (suc (suc (suc (suc s)))))))) x y m h = absurd (omega arith)

-- byte i of a list whose bytes move down by s bits
abbrev pub moved_down : List ℕ → ℕ → ℕ → ℕ
moved_down l s i = (byte l i + 256 * byte l (suc i)) / 2 ^ s % 256

module _ (l : List ℕ) (b : AllBytes l) (s : ℕ) (small : s < 8) where
  low_moved : (k m : ℕ) → (byte l k % 256 + 256 * (byte l (suc k) % 256 + 256 * m)) / 2 ^ s % 256 ≡ moved_down l s k
  low_moved k m =
      let x : ℕ = byte l (suc k) in
      ap (λ (v : ℕ). (v + 256 * (x % 256 + 256 * m)) / 2 ^ s % 256) (mod-eq_of_lt (b.fits k)) ∙ two_low s (byte l k) x m small

  shift_low : (k n : ℕ) → low_first n (number_in (series (byte l) k (suc (suc n))) / 2 ^ s % 256 ^ suc n) ≡ series (moved_down l s) k (suc n)
  unfolding low_first number_in series
  shift_low k zero = ap (λ (v : ℕ). v ∷ []) (low_moved k 0)
  shift_low k (suc n) =
      let m : ℕ = number_in (series (byte l) (suc k) (suc (suc n))) in
      let x : ℕ = byte l k % 256 + 256 * m in
      let w : ℕ = x / 2 ^ s in
      let here : w % 256 ≡ moved_down l s k = low_moved k (number_in (series (byte l) (suc (suc k)) (suc n))) in
      let off : x / 256 ≡ m = omega arith in
      let down : w / 256 ≡ m / 2 ^ s =
      div-div-eq-div-mul x (2 ^ s) 256 ∙ ap (λ (d : ℕ). x / d) (mul_comm (2 ^ s) 256) ∙ sym (div-div-eq-div-mul x 256 (2 ^ s)) ∙ ap (λ (d : ℕ). d / 2 ^ s) off in
      let cut : w % 256 ^ suc (suc n) ≡ w / 256 % 256 ^ suc n * 256 + w % 256 =
      ap (λ (d : ℕ). w % d) (pow-suc 256 (suc n)) ∙ mod-mul w (one-le-pow (suc n) 256 (zero-lt-suc 255)) (zero-lt-suc 255) in
      let first : w % 256 ^ suc (suc n) % 256 ≡ moved_down l s k = omega (arith, cut, here) in
      let rest : w % 256 ^ suc (suc n) / 256 ≡ m / 2 ^ s % 256 ^ suc n = omega (arith, cut, ap (λ (d : ℕ). d % 256 ^ suc n) down) in
      ap₂ (λ (v t : ℕ). v ∷ low_first n t) first rest ∙ ap (λ (t : List ℕ). moved_down l s k ∷ t) (shift_low (suc k) n)

  nine_number : (k : ℕ) → eight_at l k + 256 ^ 8 * byte l (k + 8) ≡ number_in (series (byte l) k 9)
  unfolding number_in series
  nine_number k =
      let p : k + 8 ≡ suc (suc (suc (suc (suc (suc (suc (suc k))))))) = omega arith in
      omega (arith, eight_number l k b, ap (byte l) p, b.fits (k + 8))

  pub shift_eight : (k : ℕ) → low_first 7 ((eight_at l k + 256 ^ 8 * byte l (k + 8)) / 2 ^ s % 256 ^ 8) ≡ series (moved_down l s) k 8
  shift_eight k = ap (λ (n : ℕ). low_first 7 (n / 2 ^ s % 256 ^ 8)) (nine_number k) ∙ shift_low k 7

-- ---- a test that the prover computes of every number below n holds of each
unfoldable pub all_below : (ℕ → Bool) → ℕ → Bool
all_below test zero = true
all_below test (suc n) = test n and all_below test n

pub each_below : (test : ℕ → Bool) (n : ℕ) → all_below test n ≡ true → (k : ℕ) → k < n → test k ≡ true
unfolding all_below
each_below test zero e k h = absurd (omega arith)
each_below test (suc n) e k h = go (ltb k n) refl (each_below test n (and_true _ _ e).1 k)
  where
    go : (b : Bool) → ltb k n ≡ b → (k < n → test k ≡ true) → test k ≡ true
    go true t ih = ih (ltb-true k n t)
    go false t ih =
        let q : k ≡ n = omega (arith, ltb-false k n t) in
        ap test q ∙ (and_true _ _ e).0
