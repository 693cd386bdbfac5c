-- Laws of images: the test of a card taken apart, and a card of a kind without a code.
use mathlib.Core.Path.{◌≡◌, refl, sym, ap, ◌∙◌}
use mathlib.Core.List.{List}
use mathlib.Core.Bool.{true, false, not}
use mathlib.Core.Logic.{◌≢◌}
use Prim.Native.Nat.{ℕ, ◌+◌, ◌≤◌}
use native.Mathlib.Omega.{arith}
use lib.ListN.{length, drop, get_or-eq_default}
use borrow.Author.Tests.{eqb-true, eq-eqb, leb-true, le-leb, not-true}
use Rattle.words.specs.Choice.{◌is◌}
use Rattle.words.specs.Bytes.{byte, blank, four_at}
use Rattle.words.proofs.Choices.{and_true, and_holds, and_end, both}
use Rattle.words.proofs.Lists.{blank_end, blank_four, zero_last}
use Rattle.chips.specs.declared.Chip.{Chip}
use Rattle.chips.specs.declared.Facts.{Facts}
use Rattle.chips.specs.Kinds.{facts}
use Rattle.chips.proofs.KindLaws.{laid, coded, Codeless, codeless, zeroed}
use Rattle.bits.specs.Bits.{is_protected}
use Rattle.bits.proofs.ProtectionLaws.{protected_beyond}
use Rattle.card.specs.Images.{is_card}

-- ---- the test taken apart
pub record IsCard (f : Facts) (image : List ℕ) : Type 0 where
  pub long : length image ≡ f.size
  pub within : byte image f.counter ≤ f.full
  pub bare : is_protected f.bits f.covered image f.counter ≡ false
  pub zeros : blank (drop f.zeros image) ≡ true

pub card_parts : (f : Facts) (image : List ℕ) → is_card f image ≡ true → IsCard f image
unfolding is_card
card_parts f image e =
    let t = and_true _ _ e in
    let u = and_true _ _ t.1 in
    let v = and_true _ _ u.1 in
    record { long = eqb-true _ _ t.0; within = leb-true _ _ u.0; bare = not-true _ v.0; zeros = v.1 }

pub card_whole : (f : Facts) (image : List ℕ) → IsCard f image → is_card f image ≡ true
unfolding is_card
card_whole f image c = both (eq-eqb _ _ c.long) (both (le-leb _ _ c.within) (both (ap not c.bare) c.zeros))

-- a card without a code has no counter: it would stand past the image's end, and beyond every bit; there the length counts, and the
-- bytes that have to be 00h
pub plain_test : (chip : Chip) (image : List ℕ) → (facts chip).coded ≡ false → length image ≡ (facts chip).size
    → blank (drop (facts chip).zeros image) ≡ is_card (facts chip) image
unfolding is_card
plain_test chip image e long =
    let k : Codeless (facts chip) = codeless chip e in
    let none : byte image (facts chip).counter ≡ 0 = get_or-eq_default image 0 {n = (facts chip).counter} (omega (arith, k.past)) in
    let bare = protected_beyond (facts chip).bits (facts chip).covered image (facts chip).counter k.beyond in
    and_holds (eq-eqb _ _ long) (and_holds (le-leb _ (facts chip).full (omega (arith, none))) (and_holds (ap not bare) refl))

-- where no byte has to be 00h the length alone counts; else it is the last four
pub full_test : (chip : Chip) (image : List ℕ) → (facts chip).coded ≡ false → length image ≡ (facts chip).size → (facts chip).zeros ≡ (facts chip).size
    → true ≡ is_card (facts chip) image
full_test chip image e long all = sym (blank_end image (facts chip).zeros (omega (arith, long, all))) ∙ plain_test chip image e long

pub last_four : (chip : Chip) → (facts chip).zeros ≢ (facts chip).size → (facts chip).zeros + 4 ≡ (facts chip).size
last_four chip h = (zeroed chip (omega (arith, (laid chip).ends, h))).four

pub four_test : (chip : Chip) (image : List ℕ) → (facts chip).coded ≡ false → length image ≡ (facts chip).size → (facts chip).zeros ≢ (facts chip).size
    → four_at image (facts chip).zeros is 0 ≡ is_card (facts chip) image
four_test chip image e long h =
    let z = (facts chip).zeros in
    let four = last_four chip h in
    zero_last image z 4 (four_at image z) (blank_four image z (omega (arith, four, long))) (omega (arith, four, long)) ∙ plain_test chip image e long

pub plain_card : (chip : Chip) (image : List ℕ) → (facts chip).coded ≡ false → length image ≡ (facts chip).size → blank (drop (facts chip).zeros image) ≡ true
    → IsCard (facts chip) image
plain_card chip image e long zeros = card_parts (facts chip) image (sym (plain_test chip image e long) ∙ zeros)

-- a code card has no byte that has to be 00h
pub coded_zeros : (chip : Chip) (image : List ℕ) → (facts chip).coded ≡ true → length image ≡ (facts chip).size → blank (drop (facts chip).zeros image) ≡ true
coded_zeros chip image e long = blank_end image (facts chip).zeros (omega (arith, long, (coded chip e).filled))

-- what the test of an image comes to, without a code and with one
pub ruleset plain_or_coded = (full_test, four_test, coded_zeros, and_end)
