-- "Where reader page is at most chip page, exactly the named range holds the data": of every chip with pages, and every reader page.
use mathlib.Core.Path.{◌≡◌, refl, subst⁻¹}
use Prim.Native.Nat.{ℕ, ◌+◌, ◌%◌, ◌≤◌, ◌<◌}
use mathlib.Core.Bool.{true}
use mathlib.Core.Logic.{◌⊎◌, inl, inr}
use mathlib.Core.List.{List, ◌++◌}
use native.Mathlib.Omega.{arith}
use lib.ListN.{length, take, drop}
use lib.Dec.{leb}
use borrow.Author.Tests.{eqb-true, le-leb}
use Rattle.words.specs.Choice.{◌means◌, ◌and◌, ◌or◌, ◌is◌}
use Rattle.words.proofs.Choices.{or_true}
use Rattle.pages.specs.Pages.{page_write}
use Rattle.pages.proofs.PageLaws.{page_range}
use Rattle.chips.specs.declared.Chip.{Chip}
use Rattle.chips.specs.declared.Facts.{Facts}
use Rattle.chips.specs.Kinds.{facts}
use Rattle.chips.proofs.Each.{all_of, each_of}
use Rattle.sound.specs.Sound.{page_size}

-- the five reader pages
data Page : ℕ → Type 0 where
  page8 : Page 8
  page16 : Page 16
  page32 : Page 32
  page64 : Page 64
  page128 : Page 128

page_of : (p : ℕ) → page_size p ≡ true → Page p
unfolding page_size
page_of p e = one (or_true _ _ e)
  where
    this : (k : ℕ) → Page k → p is k ≡ true → Page p
    this k g h = subst⁻¹ Page (eqb-true p k h) g

    four : (p is 64 ≡ true) ⊎ (p is 128 ≡ true) → Page p
    four (inl h) = this 64 page64 h
    four (inr h) = this 128 page128 h

    three : (p is 32 ≡ true) ⊎ (p is 64 or p is 128 ≡ true) → Page p
    three (inl h) = this 32 page32 h
    three (inr h) = four (or_true _ _ h)

    two : (p is 16 ≡ true) ⊎ (p is 32 or p is 64 or p is 128 ≡ true) → Page p
    two (inl h) = this 16 page16 h
    two (inr h) = three (or_true _ _ h)

    one : (p is 8 ≡ true) ⊎ (p is 16 or p is 32 or p is 64 or p is 128 ≡ true) → Page p
    one (inl h) = this 8 page8 h
    one (inr h) = two (or_true _ _ h)

-- a reader page that is at most a chip page divides it: computed over the table's rows for each of the five
divides : (chip : Chip) {p : ℕ} → Page p → p ≤ (facts chip).page → (facts chip).page % p ≡ 0
unfolding all_of ◌and◌ ◌means◌
divides chip page8 h = eqb-true _ _ (each_of (λ (f : Facts). leb 8 f.page) (λ (f : Facts). f.page % 8 is 0) refl chip (le-leb 8 _ h))
divides chip page16 h = eqb-true _ _ (each_of (λ (f : Facts). leb 16 f.page) (λ (f : Facts). f.page % 16 is 0) refl chip (le-leb 16 _ h))
divides chip page32 h = eqb-true _ _ (each_of (λ (f : Facts). leb 32 f.page) (λ (f : Facts). f.page % 32 is 0) refl chip (le-leb 32 _ h))
divides chip page64 h = eqb-true _ _ (each_of (λ (f : Facts). leb 64 f.page) (λ (f : Facts). f.page % 64 is 0) refl chip (le-leb 64 _ h))
divides chip page128 h = eqb-true _ _ (each_of (λ (f : Facts). leb 128 f.page) (λ (f : Facts). f.page % 128 is 0) refl chip (le-leb 128 _ h))

some_page : {p : ℕ} → Page p → 0 < p
some_page page8 = omega arith
some_page page16 = omega arith
some_page page32 = omega arith
some_page page64 = omega arith
some_page page128 = omega arith

pub range_holds : (chip : Chip) (p : ℕ) → page_size p ≡ true → p ≤ (facts chip).page → (image : List ℕ) (at : ℕ) (vs : List ℕ) → at + length vs ≤ length image
    → page_write p (facts chip).page image at at vs ≡ take at image ++ vs ++ drop (at + length vs) image
range_holds chip p e h image at vs room =
    page_range p (facts chip).page (some_page (page_of p e)) (omega (arith, some_page (page_of p e))) (divides chip (page_of p e) h) image at vs room
