-- Laws of the bits that stay: clearing a bit leaves every other bit of its byte, so protecting a byte leaves every other byte's protection bit.
use mathlib.Core.Path.{◌≡◌, refl, sym, ap, ap₂, ◌∙◌}
use mathlib.Core.List.{List, [], ◌∷◌}
use mathlib.Core.Bool.{Bool, true, false}
use mathlib.Core.Logic.{◌⊎◌, inl, inr, ◌≢◌}
use Prim.Native.Nat.{ℕ, zero, suc, ◌+◌, ◌-◌, ◌*◌, ◌/◌, ◌%◌, ◌^◌, ◌≤◌, ◌<◌, min}
use native.Mathlib.Nat.{pow-suc, mul_comm, mul_assoc, div-div-eq-div-mul, mod-eq_of_lt}
use native.Mathlib.Omega.{arith}
use lib.Bits.{bit_and, and_step, and_mask}
use lib.Dec.{eqb, ltb}
use lib.Pow.{pow-lt}
use lib.ListN.{length, set}
use lib.Seq.{get_or-set_other, get_or-set_same, set_out}
use borrow.Author.Tests.{eqb-true, eqb-false, eq-eqb, ne_eqb, ltb-true, ltb-false}
use Rattle.words.specs.Choice.{◌⇒◌⁏◌, ◌and◌, ◌or◌, ◌is◌}
use Rattle.words.specs.Bytes.{byte}
use Rattle.words.proofs.Choices.{either, alike, or_right, or_end, or_assoc}
use Rattle.bits.specs.Bits.{bit_of, cleared, carries, protection_bit, is_protected, protecting, protect_equal}
use Rattle.bits.proofs.ProtectionLaws.{bit_counts, protected_covered, length_protecting, byte_protect_equal}

-- ---- one byte
-- bit j + 1 of a number is bit j of its half
pub bit_half : (b j : ℕ) → bit_of b (suc j) ≡ bit_of (b / 2) j
bit_half b j = ap (λ (n : ℕ). n % 2) (ap (λ (n : ℕ). b / n) (pow-suc 2 j ∙ mul_comm (2 ^ j) 2) ∙ sym (div-div-eq-div-mul b 2 (2 ^ j)))

-- a number with bit i + 1 cleared: half of it is its half with bit i cleared, and its last bit stays
pub clear_half : (b i : ℕ) → cleared b (suc i) ≡ 2 * cleared (b / 2) i + b % 2
unfolding cleared
clear_half b i =
    let e : bit_of b (suc i) * 2 ^ suc i ≡ bit_of (b / 2) i * 2 ^ i * 2 = rw (bit_half b i, pow-suc 2 i) (sym (mul_assoc _ _ _)) in
    omega (arith, e, bit_counts (b / 2) i)

-- so a mask of k ones but for bit i clears it
pub and_clears : (k b i : ℕ) → b < 2 ^ k → i < k → bit_and b (2 ^ k - 1 - 2 ^ i) ≡ cleared b i
unfolding cleared
and_clears zero b i small h = absurd (omega arith)
and_clears (suc k) b zero small h =
    let p : 2 ^ suc k ≡ 2 ^ k * 2 = pow-suc 2 k in
    let half : (2 ^ suc k - 1 - 1) / 2 ≡ 2 ^ k - 1 = omega (arith, p) in
    let last : (2 ^ suc k - 1 - 1) % 2 ≡ 0 = omega (arith, p) in
    let kept : bit_and (b / 2) (2 ^ k - 1) ≡ b / 2 = and_mask (b / 2) k ∙ mod-eq_of_lt (omega (arith, p)) in
    let e = and_step b (2 ^ suc k - 1 - 1) ∙ ap₂ (λ (m x : ℕ). bit_and (b / 2) m * 2 + min (b % 2) x) half last in
    omega (arith, e, kept)
and_clears (suc k) b (suc i) small h =
    let p : 2 ^ suc k ≡ 2 ^ k * 2 = pow-suc 2 k in
    let q : 2 ^ suc i ≡ 2 ^ i * 2 = pow-suc 2 i in
    let below : 2 ^ i < 2 ^ k = pow-lt (omega arith) in
    let half : (2 ^ suc k - 1 - 2 ^ suc i) / 2 ≡ 2 ^ k - 1 - 2 ^ i = omega (arith, p, q, below) in
    let last : (2 ^ suc k - 1 - 2 ^ suc i) % 2 ≡ 1 = omega (arith, p, q, below) in
    let kept : min (b % 2) 1 ≡ b % 2 = omega arith in
    and_step b (2 ^ suc k - 1 - 2 ^ suc i)
    ∙ ap₂ (λ (m x : ℕ). bit_and (b / 2) m * 2 + min (b % 2) x) half last
    ∙ ap₂ (λ (n x : ℕ). n * 2 + x) (and_clears k (b / 2) i (omega (arith, p)) (omega arith)) kept
    ∙ ap (λ (n : ℕ). n + b % 2) (mul_comm (cleared (b / 2) i) 2)
    ∙ sym (clear_half b i)

pub bit_cleared : (b i j : ℕ) → j ≢ i → bit_of (cleared b i) j ≡ bit_of b j
unfolding cleared
bit_cleared b zero zero h = absurd (h refl)
bit_cleared b zero (suc j) h =
    let e : (b - b / 1 % 2 * 1) / 2 ≡ b / 2 = omega arith in
    bit_half (cleared b 0) j ∙ ap (λ (n : ℕ). bit_of n j) e ∙ sym (bit_half b j)
bit_cleared b (suc i) zero h = omega (arith, clear_half b i)
bit_cleared b (suc i) (suc j) h =
    let e : cleared b (suc i) / 2 ≡ cleared (b / 2) i = omega (arith, clear_half b i) in
    bit_half (cleared b (suc i)) j
    ∙ ap (λ (n : ℕ). bit_of n j) e
    ∙ bit_cleared (b / 2) i j (λ p. h (ap suc p))
    ∙ sym (bit_half b j)

-- the bit that is cleared is 0
own_cleared : (b i : ℕ) → bit_of (cleared b i) i ≡ 0
unfolding cleared
own_cleared b zero = omega arith
own_cleared b (suc i) =
    let e : cleared b (suc i) / 2 ≡ cleared (b / 2) i = omega (arith, clear_half b i) in
    bit_half (cleared b (suc i)) i ∙ ap (λ (n : ℕ). bit_of n i) e ∙ own_cleared (b / 2) i

-- ---- a run of bytes
-- one that ends before byte k carries nothing for it
pub carries_before : (at : ℕ) (vs : List ℕ) (k x : ℕ) → at + length vs ≤ k → carries at vs k x ≡ false
unfolding carries ◌and◌ ◌or◌
carries_before at [] k x h = refl
carries_before at (v ∷ vs) k x h = rw (ne_eqb at k (λ e. omega arith)) (carries_before (at + 1) vs k x (omega arith))

-- ---- an image
module _ (bits covered : ℕ) where
  -- a byte's own bit stays where another byte of memory is protected
  byte_protecting : (image : List ℕ) (a k : ℕ) → k ≢ a → bit_of (byte (protecting bits covered image a) (bits + k / 8)) (k % 8) ≡ bit_of (byte image (bits + k / 8)) (k % 8)
  unfolding protecting
  byte_protecting image a k h = go (eqb (k / 8) (a / 8)) refl (ltb (bits + a / 8) (length image)) refl
    where
      b : ℕ
      b = byte image (bits + a / 8)

      go : (t : Bool) → eqb (k / 8) (a / 8) ≡ t → (u : Bool) → ltb (bits + a / 8) (length image) ≡ u
          → bit_of (byte (set image (bits + a / 8) (cleared b (a % 8))) (bits + k / 8)) (k % 8) ≡ bit_of (byte image (bits + k / 8)) (k % 8)
      go false e u w = ap (λ (n : ℕ). bit_of n (k % 8)) (get_or-set_other image (bits + a / 8) (bits + k / 8) _ 0 (λ p. eqb-false (k / 8) (a / 8) e (omega arith)))
      go true e false w = ap (λ (l : List ℕ). bit_of (byte l (bits + k / 8)) (k % 8)) (set_out image (bits + a / 8) _ (ltb-false _ _ w))
      go true e true w =
          let q : k / 8 ≡ a / 8 = eqb-true _ _ e in
          rw q (ap (λ (n : ℕ). bit_of n (k % 8)) (get_or-set_same image (bits + a / 8) _ 0 (ltb-true _ _ w)) ∙ bit_cleared b (a % 8) (k % 8) (λ p. h (omega arith)))

  pub bit_protecting : (image : List ℕ) (a k : ℕ) → k ≢ a → protection_bit bits covered (protecting bits covered image a) k ≡ protection_bit bits covered image k
  unfolding protection_bit
  bit_protecting image a k h = alike (ltb k covered) (λ _. byte_protecting image a k h) (λ _. refl)

  -- D1 leaves the bit of every byte outside its range
  pub bit_protect_equal : (image : List ℕ) (at : ℕ) (vs : List ℕ) (k : ℕ) → (k < at) ⊎ (at + length vs ≤ k)
      → protection_bit bits covered (protect_equal bits covered image at vs) k ≡ protection_bit bits covered image k
  unfolding protect_equal
  bit_protect_equal image at [] k h = refl
  bit_protect_equal image at (v ∷ vs) k h =
      bit_protect_equal (byte image at is v ⇒ protecting bits covered image at ⁏ image) (at + 1) vs k (later h) ∙ one (here h)
    where
      here : (k < at) ⊎ (at + suc (length vs) ≤ k) → k ≢ at
      here (inl h) e = omega arith
      here (inr h) e = omega arith

      later : (k < at) ⊎ (at + suc (length vs) ≤ k) → (k < at + 1) ⊎ (at + 1 + length vs ≤ k)
      later (inl h) = inl (omega arith)
      later (inr h) = inr (omega arith)

      one : k ≢ at → protection_bit bits covered (byte image at is v ⇒ protecting bits covered image at ⁏ image) k ≡ protection_bit bits covered image k
      one ne = either (λ (x : List ℕ). protection_bit bits covered x k ≡ protection_bit bits covered image k) _ (λ _. bit_protecting image at k ne) (λ _. refl)

  -- what leaves the byte that a bit stands in leaves the bit
  pub bit_same : (image image' : List ℕ) (k : ℕ) → byte image' (bits + k / 8) ≡ byte image (bits + k / 8)
      → protection_bit bits covered image' k ≡ protection_bit bits covered image k
  unfolding protection_bit
  bit_same image image' k e = ap (λ (n : ℕ). ltb k covered ⇒ bit_of n (k % 8) ⁏ 1) e

  -- a byte is protected by its bit alone
  pub protected_same : (image image' : List ℕ) (k : ℕ) → protection_bit bits covered image' k ≡ protection_bit bits covered image k
      → is_protected bits covered image' k ≡ is_protected bits covered image k
  unfolding is_protected
  protected_same image image' k e = ap (λ (n : ℕ). n is 0) e

  -- ---- D1: a byte is protected afterwards where it was before, and where the run carries its value
  own_protecting : (image : List ℕ) (k : ℕ) → k < covered → bits + k / 8 < length image → is_protected bits covered (protecting bits covered image k) k ≡ true
  unfolding protecting
  own_protecting image k h l =
      let b = byte image (bits + k / 8) in
      protected_covered bits covered (protecting bits covered image k) k h
      ∙ ap (λ (n : ℕ). bit_of n (k % 8) is 0) (get_or-set_same image (bits + k / 8) (cleared b (k % 8)) 0 l)
      ∙ eq-eqb _ 0 (own_cleared b (k % 8))

  module _ (k : ℕ) (h : k < covered) (front : k < bits) where
    one_protected : (image : List ℕ) (at v : ℕ) → bits + k / 8 < length image
        → is_protected bits covered (byte image at is v ⇒ protecting bits covered image at ⁏ image) k ≡ (is_protected bits covered image k or at is k and byte image k is v)
    unfolding ◌and◌
    one_protected image at v l = go (at is k) refl
      where
        p : Bool
        p = is_protected bits covered image k

        there : at ≡ k → is_protected bits covered (byte image at is v ⇒ protecting bits covered image at ⁏ image) k ≡ (p or byte image k is v)
        there e =
            rw e (either (λ (x : List ℕ). is_protected bits covered x k ≡ (p or byte image k is v)) (byte image k is v)
            (λ t. own_protecting image k h l ∙ sym (or_right p t))
            (λ t. sym (ap (λ (b : Bool). p or b) t ∙ or_end p)))

        go : (b : Bool) → at is k ≡ b → is_protected bits covered (byte image at is v ⇒ protecting bits covered image at ⁏ image) k ≡ (p or b and byte image k is v)
        go true e = there (eqb-true at k e)
        go false e =
            either (λ (x : List ℕ). is_protected bits covered x k ≡ p) _
            (λ _. protected_same image _ k (bit_protecting image at k (λ q. eqb-false at k e (sym q)))) (λ _. refl)
            ∙ sym (or_end p)

    pub protected_equal_lem : (image : List ℕ) (at : ℕ) (vs : List ℕ) → bits + k / 8 < length image
        → is_protected bits covered (protect_equal bits covered image at vs) k ≡ (is_protected bits covered image k or carries at vs k (byte image k))
    unfolding protect_equal carries
    protected_equal_lem image at [] l = sym (or_end _)
    protected_equal_lem image at (v ∷ vs) l =
        let image' : List ℕ = byte image at is v ⇒ protecting bits covered image at ⁏ image in
        let long : length image' ≡ length image = either (λ (x : List ℕ). length x ≡ length image) _ (λ _. length_protecting bits covered image at) (λ _. refl) in
        let same : byte image' k ≡ byte image k = byte_protect_equal bits covered image at (v ∷ []) k (inl front) in
        let p = is_protected bits covered image k in
        let here = at is k and byte image k is v in
        protected_equal_lem image' (at + 1) vs (omega (arith, long))
        ∙ ap₂ (λ (a : Bool) (x : ℕ). a or carries (at + 1) vs k x) (one_protected image at v l) same
        ∙ or_assoc p here _
