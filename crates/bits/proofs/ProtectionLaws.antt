-- Laws of protection bits: a bit cleared, the search unrolled once, a run of bytes protected.
use mathlib.Core.Path.{◌≡◌, refl, sym, ap, ◌∙◌}
use mathlib.Core.List.{List, [], ◌∷◌}
use mathlib.Core.Bool.{Bool, true, false}
use mathlib.Core.Logic.{◌⊎◌, inl, inr, ◌≢◌}
use Prim.Native.Nat.{ℕ, zero, suc, ◌+◌, ◌-◌, ◌*◌, ◌/◌, ◌%◌, ◌^◌, ◌≤◌, ◌<◌, min}
use native.Mathlib.Nat.{div-mul-le_self, mul-le-mul_right, le_trans, add-zero}
use native.Mathlib.Numerals.{add-one}
use native.Mathlib.Omega.{arith}
use lib.Dec.{eqb, ltb}
use lib.ListN.{length, drop, length-set}
use lib.Seq.{drop-cons, drop-length, get_or-set_other}
use borrow.Author.Tests.{eqb-true, eqb-false, eq-eqb, ne_eqb, lt-ltb, le-ltb, ltb-true, ltb-false}
use Rattle.words.specs.Choice.{◌⇒◌⁏◌, ◌is◌}
use Rattle.words.specs.Bytes.{byte}
use Rattle.words.proofs.Choices.{first, rest, either}
use Rattle.bits.specs.Bits.{bit_of, protection_bit, is_protected, first_protected, protecting, protect_equal}
use Rattle.std.specs.Prelude.{Option, Some, None}

-- ---- one bit
-- what a bit counts is in the number
pub bit_counts : (b i : ℕ) → bit_of b i * 2 ^ i ≤ b
bit_counts b i = le_trans (mul-le-mul_right {m = bit_of b i} {n = b / 2 ^ i} (2 ^ i) (omega arith)) (div-mul-le_self b (2 ^ i))

module _ (bits covered : ℕ) where
  pub bit_covered : (image : List ℕ) (k : ℕ) → k < covered → protection_bit bits covered image k ≡ bit_of (byte image (bits + k / 8)) (k % 8)
  unfolding protection_bit
  bit_covered image k h = first _ _ (lt-ltb k covered h)

  pub bit_beyond : (image : List ℕ) (k : ℕ) → covered ≤ k → protection_bit bits covered image k ≡ 1
  unfolding protection_bit
  bit_beyond image k h = rest _ _ (le-ltb k covered h)

  pub protected_covered : (image : List ℕ) (k : ℕ) → k < covered → is_protected bits covered image k ≡ (bit_of (byte image (bits + k / 8)) (k % 8) is 0)
  unfolding is_protected
  protected_covered image k h = ap (λ (n : ℕ). n is 0) (bit_covered image k h)

  pub protected_beyond : (image : List ℕ) (k : ℕ) → covered ≤ k → is_protected bits covered image k ≡ false
  unfolding is_protected
  protected_beyond image k h = ap (λ (n : ℕ). n is 0) (bit_beyond image k h)

  -- ---- the search
  module _ (image : List ℕ) (k to : ℕ) where
    suc_left : k < to → to - k ≡ suc (to - (k + 1))
    suc_left h = omega arith

    pub first_none : to ≤ k → first_protected bits covered image k (to - k) ≡ None
    unfolding first_protected
    first_none h = let e : to - k ≡ 0 = omega arith in rw e

    pub first_here : k < to → is_protected bits covered image k ≡ true → first_protected bits covered image k (to - k) ≡ Some k
    unfolding first_protected ◌⇒◌⁏◌
    first_here h e = rw (suc_left h, e)

    pub first_later : k < to → is_protected bits covered image k ≡ false → first_protected bits covered image k (to - k) ≡ first_protected bits covered image (k + 1) (to - (k + 1))
    unfolding first_protected ◌⇒◌⁏◌
    first_later h e = rw (suc_left h, e)

  -- bytes past those covered are passed over
  pub first_beyond : (image : List ℕ) (k n : ℕ) → covered ≤ k → first_protected bits covered image k n ≡ None
  unfolding first_protected ◌⇒◌⁏◌
  first_beyond image k zero h = refl
  first_beyond image k (suc n) h = rw (protected_beyond image k h) (first_beyond image (k + 1) n (omega arith))

  -- it goes no further than the bytes covered
  pub first_covered : (image : List ℕ) (k n : ℕ) → first_protected bits covered image k n ≡ first_protected bits covered image k (min covered (k + n) - k)
  unfolding first_protected
  first_covered image k zero = let e : min covered (k + 0) - k ≡ 0 = omega arith in rw e
  first_covered image k (suc n) = go (first_covered image (k + 1) n) (ltb k covered) refl
    where
      go : first_protected bits covered image (k + 1) n ≡ first_protected bits covered image (k + 1) (min covered (k + 1 + n) - (k + 1))
          → (b : Bool) → ltb k covered ≡ b → first_protected bits covered image k (suc n) ≡ first_protected bits covered image k (min covered (k + suc n) - k)
      go later true e =
          let q : min covered (k + suc n) - k ≡ suc (min covered (k + 1 + n) - (k + 1)) = omega (arith, ltb-true k covered e) in
          ap (λ (r : Option ℕ). is_protected bits covered image k ⇒ Some k ⁏ r) later ∙ sym (ap (first_protected bits covered image k) q)
      go later false e = first_beyond image k (suc n) (ltb-false k covered e) ∙ sym (first_beyond image k (min covered (k + suc n) - k) (ltb-false k covered e))

  -- it goes past m bytes that are not protected, and past the end
  pub first_past : (image : List ℕ) (k to m : ℕ) → ((j : ℕ) → j < m → is_protected bits covered image (k + j) ≡ false)
      → first_protected bits covered image k (to - k) ≡ first_protected bits covered image (k + m) (to - (k + m))
  first_past image k to zero h = let e : k + 0 ≡ k = omega arith in rw e
  first_past image k to (suc m) h =
      go
      (first_past image (k + 1) to m (λ j b. let p : k + 1 + j ≡ k + suc j = omega arith in ap (is_protected bits covered image) p ∙ h (suc j) (omega arith)))
      (ltb k to) refl
    where
      go : first_protected bits covered image (k + 1) (to - (k + 1)) ≡ first_protected bits covered image (k + 1 + m) (to - (k + 1 + m))
          → (b : Bool) → ltb k to ≡ b → first_protected bits covered image k (to - k) ≡ first_protected bits covered image (k + suc m) (to - (k + suc m))
      go later true e =
          let q : k + 1 + m ≡ k + suc m = omega arith in
          let here : is_protected bits covered image k ≡ false = sym (ap (is_protected bits covered image) (add-zero k)) ∙ h 0 (omega arith) in
          first_later image k to (ltb-true k to e) here ∙ later ∙ ap (λ (n : ℕ). first_protected bits covered image n (to - n)) q
      go later false e = first_none image k to (ltb-false k to e) ∙ sym (first_none image (k + suc m) to (omega (arith, ltb-false k to e)))

  -- where it finds none, no byte of the range is protected
  pub first_free : (image : List ℕ) (k n j : ℕ) → first_protected bits covered image k n ≡ None → k ≤ j → j < k + n → is_protected bits covered image j ≡ false
  unfolding first_protected ◌⇒◌⁏◌
  first_free image k zero j e h l = absurd (omega arith)
  first_free image k (suc n) j e h l = go (λ q r. first_free image (k + 1) n j q r (omega arith)) (is_protected bits covered image k) refl e (eqb k j) refl
    where
      none : Some k ≡ None → is_protected bits covered image j ≡ false
      none q = cc

      go : (first_protected bits covered image (k + 1) n ≡ None → k + 1 ≤ j → is_protected bits covered image j ≡ false)
          → (b : Bool) → is_protected bits covered image k ≡ b → (b ⇒ Some k ⁏ first_protected bits covered image (k + 1) n) ≡ None
          → (c : Bool) → eqb k j ≡ c → is_protected bits covered image j ≡ false
      go later true p q c r = none q
      go later false p q true r = ap (is_protected bits covered image) (sym (eqb-true k j r)) ∙ p
      go later false p q false r = later q (omega (arith, eqb-false k j r))

  -- where it finds one, that byte is protected and stands in the range, and no byte of the range before it is protected
  pub record Found (image : List ℕ) (k n at : ℕ) : Type 0 where
    pub from : k ≤ at
    pub within : at < k + n
    pub here : is_protected bits covered image at ≡ true
    pub before : (j : ℕ) → k ≤ j → j < at → is_protected bits covered image j ≡ false

  pub first_found : (image : List ℕ) (k n at : ℕ) → first_protected bits covered image k n ≡ Some at → Found image k n at
  unfolding first_protected ◌⇒◌⁏◌
  first_found image k zero at e = let z : ◌≡◌ {A = ℕ} 0 1 = cc in absurd (omega arith)
  first_found image k (suc n) at e = go (first_found image (k + 1) n at) (is_protected bits covered image k) refl e
    where
      go : (first_protected bits covered image (k + 1) n ≡ Some at → Found image (k + 1) n at)
          → (b : Bool) → is_protected bits covered image k ≡ b → (b ⇒ Some k ⁏ first_protected bits covered image (k + 1) n) ≡ Some at → Found image k (suc n) at
      go later true p q =
          let e : k ≡ at = cc in
          record { from = omega arith; within = omega arith; here = ap (is_protected bits covered image) (sym e) ∙ p; before = λ j h l. absurd (omega arith) }
      go later false p q =
          let f = later q in
          record { from = omega (arith, f.from); within = omega (arith, f.within); here = f.here; before = λ j h l. earlier f j (eqb k j) refl h l }
        where
          earlier : Found image (k + 1) n at → (j : ℕ) → (c : Bool) → eqb k j ≡ c → k ≤ j → j < at → is_protected bits covered image j ≡ false
          earlier f j true r h l = ap (is_protected bits covered image) (sym (eqb-true k j r)) ∙ p
          earlier f j false r h l = f.before j (omega (arith, eqb-false k j r)) l

  -- ---- bytes protected
  pub length_protecting : (image : List ℕ) (k : ℕ) → length (protecting bits covered image k) ≡ length image
  unfolding protecting
  length_protecting image k = simp length-set

  pub length_protect_equal : (image : List ℕ) (k : ℕ) (vs : List ℕ) → length (protect_equal bits covered image k vs) ≡ length image
  unfolding protect_equal
  length_protect_equal image k [] = refl
  length_protect_equal image k (v ∷ vs) =
      length_protect_equal (byte image k is v ⇒ protecting bits covered image k ⁏ image) (k + 1) vs
      ∙ either (λ (l : List ℕ). length l ≡ length image) _ (λ _. length_protecting image k) (λ _. refl)

  module _ (image : List ℕ) (at i : ℕ) (vs : List ℕ) (h : i < length vs) where
    equal_step : protect_equal bits covered image (at + i) (drop i vs)
        ≡ protect_equal bits covered (byte image (at + i) is byte vs i ⇒ protecting bits covered image (at + i) ⁏ image) (at + (i + 1)) (drop (i + 1) vs)
    unfolding protect_equal
    equal_step =
        let e : at + i + 1 ≡ at + (i + 1) = omega arith in
        let x : List ℕ = byte image (at + i) is byte vs i ⇒ protecting bits covered image (at + i) ⁏ image in
        ap (λ (l : List ℕ). protect_equal bits covered image (at + i) l) (drop-cons vs i 0 h)
        ∙ ap (λ (m : ℕ). protect_equal bits covered x m (drop (suc i) vs)) e
        ∙ ap (λ (m : ℕ). protect_equal bits covered x (at + (i + 1)) (drop m vs)) (sym (add-one i))

    pub equal_hit : byte image (at + i) ≡ byte vs i
        → protect_equal bits covered image (at + i) (drop i vs) ≡ protect_equal bits covered (protecting bits covered image (at + i)) (at + (i + 1)) (drop (i + 1) vs)
    equal_hit e = equal_step ∙ ap (λ (l : List ℕ). protect_equal bits covered l (at + (i + 1)) (drop (i + 1) vs)) (first _ _ (eq-eqb _ _ e))

    pub equal_miss : (byte image (at + i) ≡ byte vs i → ⊥)
        → protect_equal bits covered image (at + i) (drop i vs) ≡ protect_equal bits covered image (at + (i + 1)) (drop (i + 1) vs)
    equal_miss e = equal_step ∙ ap (λ (l : List ℕ). protect_equal bits covered l (at + (i + 1)) (drop (i + 1) vs)) (rest _ _ (ne_eqb _ _ e))

  pub equal_end : (image : List ℕ) (k : ℕ) (vs : List ℕ) → protect_equal bits covered image k (drop (length vs) vs) ≡ image
  unfolding protect_equal
  equal_end image k vs = rw (drop-length vs)

  -- A byte before the protection bytes, or behind those that a run of protections reaches, keeps its value.
  pub byte_protect_equal : (l : List ℕ) (at : ℕ) (vs : List ℕ) (k : ℕ) → (k < bits) ⊎ (bits + (at + length vs + 7) / 8 ≤ k)
      → byte (protect_equal bits covered l at vs) k ≡ byte l k
  unfolding protect_equal protecting
  byte_protect_equal l at [] k h = refl
  byte_protect_equal l at (v ∷ vs) k h =
      byte_protect_equal (byte l at is v ⇒ protecting bits covered l at ⁏ l) (at + 1) vs k (later h) ∙ one (here h)
    where
      here : (k < bits) ⊎ (bits + (at + suc (length vs) + 7) / 8 ≤ k) → k ≢ bits + at / 8
      here (inl h) e = omega arith
      here (inr h) e = omega arith

      later : (k < bits) ⊎ (bits + (at + suc (length vs) + 7) / 8 ≤ k) → (k < bits) ⊎ (bits + (at + 1 + length vs + 7) / 8 ≤ k)
      later (inl h) = inl h
      later (inr h) = inr (omega arith)

      one : k ≢ bits + at / 8 → byte (byte l at is v ⇒ protecting bits covered l at ⁏ l) k ≡ byte l k
      one ne = either (λ (x : List ℕ). byte x k ≡ byte l k) _ (λ _. get_or-set_other l (bits + at / 8) k _ 0 ne) (λ _. refl)
