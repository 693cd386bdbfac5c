-- Laws of a scan by trailing ones: those of a byte from any bit on, and the unprotected bytes that the ones of a protection byte, and of
-- four that are FFh, are.
use mathlib.Core.Path.{◌≡◌, refl, sym, ap, ap₂, ◌∙◌}
use mathlib.Core.List.{List}
use mathlib.Core.Bool.{Bool, true, false}
use Prim.Native.Nat.{ℕ, zero, suc, ◌+◌, ◌-◌, ◌/◌, ◌%◌, ◌^◌, ◌≤◌, ◌<◌}
use native.Mathlib.Nat.{div-div-eq-div-mul, div-le_self}
use Rattle.std.specs.Int.{trailing_ones}
use Rattle.std.proofs.Common.{w32}
use Rattle.std.proofs.lemmas.Nat.Bits.{bit_at-trailing_ones}
use native.Mathlib.Omega.{arith}
use lib.Dec.{leb, ltb}
use lib.Pow.{pow-add}
use borrow.Author.Tests.{eqb-true, leb-true, leb-false, ltb-true, ltb-false}
use Rattle.words.specs.Choice.{◌and◌, ◌is◌}
use Rattle.words.specs.Bytes.{byte, four_at}
use Rattle.words.proofs.Lists.{four_full}
use Rattle.words.proofs.Numbers.{all_below, each_below}
use Rattle.bits.specs.Bits.{bit_of, is_protected}
use Rattle.bits.specs.Inner.{OnesFrom, FreeFrom}
use Rattle.bits.proofs.ProtectionLaws.{protected_covered, protected_beyond}

-- ---- a byte turned round
-- what is left of 511 has a one where the byte has a zero, and a one behind the byte's end
bits_turned_lem : (j b : ℕ) → j < 8 → b < 256 → bit_of (511 - b) j + bit_of b j ≡ 1
bits_turned_lem zero b h l = omega arith
bits_turned_lem (suc zero) b h l = omega arith
bits_turned_lem (suc (suc zero)) b h l = omega arith
bits_turned_lem (suc (suc (suc zero))) b h l = omega arith
bits_turned_lem (suc (suc (suc (suc zero)))) b h l = omega arith
bits_turned_lem (suc (suc (suc (suc (suc zero))))) b h l = omega arith
bits_turned_lem (suc (suc (suc (suc (suc (suc zero)))))) b h l = omega arith
bits_turned_lem (suc (suc (suc (suc (suc (suc (suc zero))))))) b h l = omega arith
bits_turned_lem (suc (suc (suc (suc (suc (suc (suc (suc j)))))))) b h l = absurd (omega arith)

-- ---- the ones of a byte, from its lowest bit on
pub bit_shifted : (n i j : ℕ) → bit_of (n / 2 ^ i) j ≡ bit_of n (i + j)
bit_shifted n i j = ap (λ (m : ℕ). m % 2) (div-div-eq-div-mul n (2 ^ i) (2 ^ j) ∙ ap (λ (m : ℕ). n / m) (sym (pow-add 2 i j)))

-- FFh is ones
bit_full : (j : ℕ) → j < 8 → bit_of 255 j ≡ 1
unfolding all_below ◌and◌
bit_full j h = eqb-true _ _ (each_below (λ (i : ℕ). bit_of 255 i is 1) 8 refl j h)

-- those of a byte from bit i on, as of a number that has room for a 0 behind them
pub ones_scanned : (b i : ℕ) → b < 256 → i < 8 → OnesFrom b i (trailing_ones w32 (b / 2 ^ i))
ones_scanned b i small h =
    let x : ℕ = b / 2 ^ i in
    let t = bit_at-trailing_ones w32 x (omega (arith, div-le_self b (2 ^ i))) in
    record {
      within = go t.2 (leb (i + trailing_ones w32 x) 8) refl;
      ones = λ j l. sym (bit_shifted b i j) ∙ t.2 j l;
      none = λ e. sym (bit_shifted b i 0 ∙ ap (bit_of b) (omega arith)) ∙ ap (bit_of x) (sym e) ∙ t.1;
    }
  where
    go : ((j : ℕ) → j < trailing_ones w32 (b / 2 ^ i) → bit_of (b / 2 ^ i) j ≡ 1) → (t : Bool) → leb (i + trailing_ones w32 (b / 2 ^ i)) 8 ≡ t
        → i + trailing_ones w32 (b / 2 ^ i) ≤ 8
    go ones true e = leb-true _ _ e
    go ones false e =
        let end : i + (8 - i) ≡ 8 = omega arith in
        absurd (omega (arith, ones (8 - i) (omega (arith, leb-false _ _ e)), bit_shifted b i (8 - i), ap (bit_of b) end))

-- ---- a byte whose bit is 1 is not protected
module _ (bits covered : ℕ) (image : List ℕ) where
  one_free : (k : ℕ) → bit_of (byte image (bits + k / 8)) (k % 8) ≡ 1 → is_protected bits covered image k ≡ false
  one_free k e = go (ltb k covered) refl
    where
      go : (b : Bool) → ltb k covered ≡ b → is_protected bits covered image k ≡ false
      go true h = protected_covered bits covered image k (ltb-true _ _ h) ∙ ap (λ (m : ℕ). m is 0) e
      go false h = protected_beyond bits covered image k (ltb-false _ _ h)

-- ---- the bytes of a protection byte
module _ (bits covered : ℕ) (image : List ℕ) (k n : ℕ) (o : OnesFrom (byte image (bits + k / 8)) (k % 8) n) where
  -- those whose bits are 1 are not protected
  pub ones_free : (j : ℕ) → j < n → is_protected bits covered image (k + j) ≡ false
  ones_free j l =
      let q : (k + j) / 8 ≡ k / 8 = omega (arith, o.within) in
      let r : (k + j) % 8 ≡ k % 8 + j = omega (arith, o.within) in
      one_free bits covered image (k + j) (ap₂ (λ (m i : ℕ). bit_of (byte image (bits + m)) i) q r ∙ o.ones j l)

  -- and where there are none the first byte is
  pub none_protected : n ≡ 0 → k < covered → is_protected bits covered image k ≡ true
  none_protected e h = protected_covered bits covered image k h ∙ ap (λ (m : ℕ). m is 0) (o.none e)

-- ---- those of a protection byte, and of four that are FFh, as many as are free
module _ (bits covered : ℕ) (image : List ℕ) where
  pub few_free : (k n : ℕ) → k < covered → OnesFrom (byte image (bits + k / 8)) (k % 8) n → FreeFrom bits covered image k n
  few_free k n h o =
      record {
        few = omega (arith, o.within);
        free = ones_free bits covered image k n o;
        none = λ e. none_protected bits covered image k n o e h;
      }

  -- the ones of four protection bytes
  pub four_free : (k : ℕ) → ((i : ℕ) → byte image i < 256) → four_at image (bits + k / 8) ≡ 4294967295 → FreeFrom bits covered image k (32 - k % 8)
  four_free k small e =
      record {
        few = omega arith;
        free = λ j l.
            let q : bits + (k + j) / 8 ≡ bits + k / 8 + ((k + j) / 8 - k / 8) = omega arith in
            one_free bits covered image (k + j)
            (ap (λ (m : ℕ). bit_of m ((k + j) % 8)) (ap (byte image) q ∙ four_full image (bits + k / 8) small e ((k + j) / 8 - k / 8) (omega arith))
            ∙ bit_full ((k + j) % 8) (omega arith));
        none = λ z. absurd (omega arith);
      }
