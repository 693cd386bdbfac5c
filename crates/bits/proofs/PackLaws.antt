-- Laws of packed bits: eight of them are eight bits of the number that two neighbouring protection bytes make.
use mathlib.Core.Path.{◌≡◌, sym, ap, ap₂, ◌∙◌, subst⁻¹}
use mathlib.Core.List.{List}
use Prim.Native.Nat.{ℕ, zero, suc, ◌+◌, ◌-◌, ◌*◌, ◌/◌, ◌%◌, ◌^◌, ◌≤◌, ◌<◌}
use native.Mathlib.Nat.{pow-suc, div-div-eq-div-mul, add-zero}
use native.Mathlib.Numerals.{add-one}
use native.Mathlib.Omega.{arith}
use lib.ListN.{length, take, drop}
use lib.Pow.{mod-pow-add}
use lib.Seq.{sets}
use Rattle.words.specs.Bytes.{AllBytes, byte, eight_at, low_first, over, series}
use Rattle.words.proofs.Lists.{length_series, series_part, series_same, series_laid}
use Rattle.words.proofs.Numbers.{moved_down, shift_eight}
use Rattle.bits.specs.Bits.{bit_of, protection_bit, packed, packed_bytes}
use Rattle.bits.proofs.ProtectionLaws.{bit_covered}

module _ (bits covered : ℕ) (image : List ℕ) where
  -- bits that stand in a number w from its bit s on are packed as that part of w
  packed_part : (w m k s : ℕ) → ((i : ℕ) → i < m → protection_bit bits covered image (k + i) ≡ bit_of w (s + i)) → packed bits covered image k m ≡ w / 2 ^ s % 2 ^ m
  unfolding packed
  packed_part w zero k s h = omega arith
  packed_part w (suc m) k s h =
      let here : protection_bit bits covered image k ≡ bit_of w s = ap (protection_bit bits covered image) (sym (add-zero k)) ∙ h 0 (omega arith) ∙ ap (bit_of w) (add-zero s) in
      let later : packed bits covered image (k + 1) m ≡ w / 2 ^ suc s % 2 ^ m =
      packed_part w m (k + 1) (suc s) (λ i b.
      let p : k + 1 + i ≡ k + suc i = omega arith in
      let q : s + suc i ≡ suc s + i = omega arith in
      ap (protection_bit bits covered image) p ∙ h (suc i) (omega arith) ∙ ap (bit_of w) q) in
      let half : w / 2 ^ suc s ≡ w / 2 ^ s / 2 = ap (λ (n : ℕ). w / n) (pow-suc 2 s) ∙ sym (div-div-eq-div-mul w (2 ^ s) 2) in
      let split : w / 2 ^ s % 2 ^ (m + 1) ≡ w / 2 ^ s / 2 % 2 ^ m * 2 + w / 2 ^ s % 2 = mod-pow-add (w / 2 ^ s) m 1 in
      let next : packed bits covered image (k + 1) m ≡ w / 2 ^ s / 2 % 2 ^ m = later ∙ ap (λ (n : ℕ). n % 2 ^ m) half in
      let whole : protection_bit bits covered image k + 2 * packed bits covered image (k + 1) m ≡ w / 2 ^ s % 2 ^ (m + 1) = omega (arith, here, next, split) in
      whole ∙ ap (λ (n : ℕ). w / 2 ^ s % 2 ^ n) (add-one m)

-- bit j of two bytes is bit j of the low one, and bit 8 + j that of the high one
low_bit : (j a b : ℕ) → j < 8 → bit_of (a + 256 * b) j ≡ bit_of a j
low_bit zero a b h = omega arith
low_bit (suc zero) a b h = omega arith
low_bit (suc (suc zero)) a b h = omega arith
low_bit (suc (suc (suc zero))) a b h = omega arith
low_bit (suc (suc (suc (suc zero)))) a b h = omega arith
low_bit (suc (suc (suc (suc (suc zero))))) a b h = omega arith
low_bit (suc (suc (suc (suc (suc (suc zero)))))) a b h = omega arith
low_bit (suc (suc (suc (suc (suc (suc (suc zero))))))) a b h = omega arith
low_bit (suc (suc (suc (suc (suc (suc (suc (suc j)))))))) a b h = absurd (omega arith)

high_bit : (j a b : ℕ) → a < 256 → bit_of (a + 256 * b) (8 + j) ≡ bit_of b j
high_bit j a b h =
    let e : (a + 256 * b) / 256 ≡ b = omega arith in
    ap (λ (n : ℕ). (a + 256 * b) / n % 2) (lib.Pow.pow-add 2 8 j) ∙ ap (λ (n : ℕ). n % 2) (sym (div-div-eq-div-mul (a + 256 * b) 256 (2 ^ j)) ∙ ap (λ (n : ℕ). n / 2 ^ j) e)

-- eight bits from byte k on, as part of the two bytes they stand in
packed_eight : (bits covered : ℕ) (image : List ℕ) (k : ℕ) → k + 8 ≤ covered → byte image (bits + k / 8) < 256
    → packed bits covered image k 8 ≡ (byte image (bits + k / 8) + 256 * byte image (bits + k / 8 + 1)) / 2 ^ (k % 8) % 256
packed_eight bits covered image k h small = packed_part bits covered image (a + 256 * b) 8 k (k % 8) each
  where
    a : ℕ
    a = byte image (bits + k / 8)

    b : ℕ
    b = byte image (bits + k / 8 + 1)

    each : (i : ℕ) → i < 8 → protection_bit bits covered image (k + i) ≡ bit_of (a + 256 * b) (k % 8 + i)
    each i l = bit_covered bits covered image (k + i) (omega arith) ∙ go (native.Mathlib.Decide.dec_le 8 (k % 8 + i))
      where
        go : Dec (8 ≤ k % 8 + i) → bit_of (byte image (bits + (k + i) / 8)) ((k + i) % 8) ≡ bit_of (a + 256 * b) (k % 8 + i)
        go (no n) =
            let p : (k + i) / 8 ≡ k / 8 = omega (arith, native.Mathlib.Nat.lt_of_not-le n) in
            let q : (k + i) % 8 ≡ k % 8 + i = omega (arith, native.Mathlib.Nat.lt_of_not-le n) in
            ap (λ (m : ℕ). bit_of (byte image (bits + m)) ((k + i) % 8)) p ∙ ap (bit_of a) q ∙ sym (low_bit (k % 8 + i) a b (native.Mathlib.Nat.lt_of_not-le n))
        go (yes n) =
            let p : bits + (k + i) / 8 ≡ bits + k / 8 + 1 = omega arith in
            let q : (k + i) % 8 ≡ k % 8 + i - 8 = omega arith in
            let r : 8 + (k % 8 + i - 8) ≡ k % 8 + i = omega arith in
            ap (λ (m : ℕ). bit_of (byte image m) ((k + i) % 8)) p ∙ ap (bit_of b) q ∙ sym (high_bit (k % 8 + i - 8) a b small) ∙ ap (bit_of (a + 256 * b)) r

-- the same of byte j of the bits from `at` on
pub packed_made : (bits covered : ℕ) (image : List ℕ) (at j : ℕ) → at + 8 * j + 8 ≤ covered → byte image (bits + at / 8 + j) < 256
    → packed bits covered image (at + 8 * j) 8 ≡ (byte image (bits + at / 8 + j) + 256 * byte image (bits + at / 8 + j + 1)) / 2 ^ (at % 8) % 256
packed_made bits covered image at j h small =
    let p : bits + (at + 8 * j) / 8 ≡ bits + at / 8 + j = omega arith in
    let q : (at + 8 * j) % 8 ≡ at % 8 = omega arith in
    packed_eight bits covered image (at + 8 * j) h (subst⁻¹ (λ (m : ℕ). byte image m < 256) p small)
    ∙ ap₂ (λ (m s : ℕ). (byte image m + 256 * byte image (m + 1)) / 2 ^ s % 256) p q

-- eight bytes of bits put at once behind the j that stand there
pub packed_eight_more : (bits covered : ℕ) (image : List ℕ) (at j : ℕ) (out : List ℕ) → at + 8 * j + 64 ≤ covered → AllBytes image → j + 8 ≤ length out
    → sets (over (series (λ (i : ℕ). packed bits covered image (at + 8 * i) 8) 0 j) out) j
    (low_first 7 ((eight_at image (bits + at / 8 + j) + 256 ^ 8 * byte image (bits + at / 8 + j + 8)) / 2 ^ (at % 8) % 256 ^ 8))
    ≡ over (series (λ (i : ℕ). packed bits covered image (at + 8 * i) 8) 0 (j + 8)) out
packed_eight_more bits covered image at j out h b room =
    let f : ℕ → ℕ = λ i. packed bits covered image (at + 8 * i) 8 in
    let k : ℕ = bits + at / 8 + j in
    let small : at % 8 < 8 = omega arith in
    let same : series (moved_down image (at % 8)) k 8 ≡ series f j 8 =
    series_same (moved_down image (at % 8)) f k j 8 (λ i l.
    let p : bits + at / 8 + (j + i) ≡ k + i = omega arith in
    let q : bits + at / 8 + (j + i) + 1 ≡ suc (k + i) = omega arith in
    sym (packed_made bits covered image at (j + i) (omega arith) (b.fits (bits + at / 8 + (j + i)))
    ∙ ap₂ (λ (x y : ℕ). (byte image x + 256 * byte image y) / 2 ^ (at % 8) % 256) p q)) in
    ap (sets (over (series f 0 j) out) j) (shift_eight image b (at % 8) small k ∙ same) ∙ series_laid f j 8 out room

-- bits from the first of a protection byte on are the protection bytes themselves
pub packed_whole : (bits covered : ℕ) (image : List ℕ) (at n : ℕ) → at % 8 ≡ 0 → at + 8 * n ≤ covered → bits + at / 8 + n ≤ length image → ((k : ℕ) → byte image k < 256)
    → take n (drop (bits + at / 8) image) ≡ packed_bytes bits covered image at n
unfolding packed_bytes
packed_whole bits covered image at n z h r small = sym (series_part (λ (j : ℕ). packed bits covered image (at + 8 * j) 8) 0 (bits + at / 8) n image r each)
  where
    each : (j : ℕ) → j < n → packed bits covered image (at + 8 * (0 + j)) 8 ≡ byte image (bits + at / 8 + j)
    each j b =
        let a : ℕ = byte image (bits + at / 8 + j) in
        let e : at + 8 * (0 + j) ≡ at + 8 * j = omega arith in
        ap (λ (m : ℕ). packed bits covered image m 8) e
        ∙ packed_made bits covered image at j (omega arith) (small (bits + at / 8 + j))
        ∙ ap (λ (s : ℕ). (a + 256 * byte image (bits + at / 8 + j + 1)) / 2 ^ s % 256) z
        ∙ omega (arith, small (bits + at / 8 + j))

pub length_packed_bytes : (bits covered : ℕ) (image : List ℕ) (at n : ℕ) → length (packed_bytes bits covered image at n) ≡ n
unfolding packed_bytes
length_packed_bytes bits covered image at n = length_series _ 0 n
