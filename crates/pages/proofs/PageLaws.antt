-- Laws of page writes: a run of bytes, where bytes land, and that nothing runs round where the reader page divides the chip page.
use mathlib.Core.Path.{◌≡◌, refl, sym, ap, ap₂, ◌∙◌, subst⁻¹}
use mathlib.Core.List.{List, [], ◌∷◌, ◌++◌}
use mathlib.Core.Bool.{Bool, true, false}
use Prim.Native.Nat.{ℕ, suc, ◌+◌, ◌-◌, ◌*◌, ◌/◌, ◌%◌, ◌≤◌, ◌<◌, ◌∣◌}
use native.Mathlib.Nat.{add-mod_right, mul-mod_right, mul-div_cancel', mul_comm, mul-suc, div-lt_iff_lt-mul, mod-mod, mod-mod_of_dvd}
use native.Mathlib.Nat.{mul-add-mod_self_left, mod-eq_of_lt, add-zero, div-add-mod, mod-lt, mod-le, mul-le-mul_left, dvd_of_mod-eq-zero}
use native.Mathlib.Numerals.{add-one}
use native.Mathlib.Omega.{arith}
use lib.ListN.{length, take, drop, set, length-set}
use lib.Seq.{sets, sets-eq}
use lib.Dec.{eqb}
use borrow.Author.Tests.{eqb-true, eqb-false, ne_eqb}
use Rattle.words.specs.Choice.{◌⇒◌⁏◌, ◌is◌}
use Rattle.words.proofs.Choices.{either, rest}
use Rattle.std.proofs.lemmas.List.{nil_from_length}
use Rattle.words.proofs.Lists.{mod_next}
use Rattle.pages.specs.Pages.{cut_start, lands, page_write}

-- ---- any pages
-- a cut starts at the address or before
pub cut_le : (reader c a : ℕ) → c ≤ a → cut_start reader c a ≤ a
unfolding cut_start
cut_le reader c a h = either (λ (n : ℕ). n ≤ a) _ (λ _. omega arith) (λ _. h)

-- what lands, lands in an image of whole chip pages
pub lands_inside : (chip c a n : ℕ) → 0 < chip → c ≤ a → a < n → n % chip ≡ 0 → lands chip c a < n
unfolding lands
lands_inside chip c a n p h b w =
    let q : ℕ = n / chip in
    let whole : chip * q ≡ n = omega (arith, div-add-mod n chip) in
    let base : c - c % chip ≡ chip * (c / chip) = omega (arith, div-add-mod c chip) in
    let inside : c < q * chip = subst⁻¹ (λ (m : ℕ). c < m) (mul_comm q chip ∙ whole) (omega arith) in
    let low : suc (c / chip) ≤ q = (div-lt_iff_lt-mul p).1 inside in
    omega (arith, base, whole, mul-le-mul_left chip low, mul-suc chip (c / chip), mod-lt (c % chip + (a - c)) p)

-- in an image of whole chip pages a chip page that begins ends
pub page_inside : (chip p k n : ℕ) → 0 < chip → p < n → n % chip ≡ 0 → p % chip + k ≤ chip → p + k ≤ n
page_inside chip p k n some b w h =
    let q : ℕ = n / chip in
    let whole : chip * q ≡ n = omega (arith, div-add-mod n chip) in
    let inside : p < q * chip = subst⁻¹ (λ (m : ℕ). p < m) (mul_comm q chip ∙ whole) b in
    let low : suc (p / chip) ≤ q = (div-lt_iff_lt-mul some).1 inside in
    omega (arith, whole, mul-le-mul_left chip low, mul-suc chip (p / chip), div-add-mod p chip)

-- the end of a reader page is the start of the next
pub page_end : (reader c : ℕ) → (c - c % reader + reader) % reader ≡ 0
page_end reader c = add-mod_right (c - c % reader) reader ∙ ap (λ (n : ℕ). n % reader) start ∙ mul-mod_right reader (c / reader)
  where
    start : c - c % reader ≡ reader * (c / reader)
    start = omega (arith, div-add-mod c reader)

-- where the cut of an address starts, asked a second time
cut_again : (reader c a : ℕ) → cut_start reader (cut_start reader c a) a ≡ cut_start reader c a
unfolding cut_start ◌⇒◌⁏◌
cut_again reader c a = go (a % reader is 0)
  where
    go : (b : Bool) → (b ⇒ a ⁏ (b ⇒ a ⁏ c)) ≡ (b ⇒ a ⁏ c)
    go true = refl
    go false = refl

-- before the end of the reader page the cut goes on
cut_on : (reader c a : ℕ) → a % reader + 1 < reader → cut_start reader c (a + 1) ≡ c
unfolding cut_start
cut_on reader c a h = rest _ _ (ne_eqb ((a + 1) % reader) 0 (λ e. omega (arith, mod_next a reader h)))

-- before the end of the chip page the next byte lands next
lands_next : (chip c a : ℕ) → c ≤ a → lands chip c a % chip + 1 < chip → lands chip c (a + 1) ≡ lands chip c a + 1
unfolding lands
lands_next chip c a h b =
    let x : ℕ = c % chip + (a - c) in
    let base : c - c % chip ≡ chip * (c / chip) = omega (arith, div-add-mod c chip) in
    let low : lands chip c a % chip ≡ x % chip = ap (λ (n : ℕ). (n + x % chip) % chip) base ∙ mul-add-mod_self_left chip (c / chip) (x % chip) ∙ mod-mod x chip in
    let next : c % chip + (a + 1 - c) ≡ x + 1 = omega arith in
    let e : (c % chip + (a + 1 - c)) % chip ≡ x % chip + 1 = ap (λ (n : ℕ). n % chip) next ∙ mod_next x chip (omega (arith, low)) in
    omega (arith, e)

module _ (reader chip : ℕ) where
  pub length_page_write : (image : List ℕ) (c a : ℕ) (vs : List ℕ) → length (page_write reader chip image c a vs) ≡ length image
  unfolding page_write
  length_page_write image c a [] = refl
  length_page_write image c a (v ∷ vs) =
      length_page_write (set image (lands chip (cut_start reader c a) a) v) (cut_start reader c a) (a + 1) vs ∙ simp length-set

  -- a write goes by where the cut of its first address starts
  write_from : (image : List ℕ) (c a : ℕ) (vs : List ℕ) → page_write reader chip image c a vs ≡ page_write reader chip image (cut_start reader c a) a vs
  unfolding page_write
  write_from image c a [] = refl
  write_from image c a (v ∷ vs) = ap (λ (n : ℕ). page_write reader chip (set image (lands chip n a) v) n (a + 1) vs) (sym (cut_again reader c a))

  -- bytes that go no further than the reader page and the chip page are stored from where the first lands
  run_stores : (image : List ℕ) (c a : ℕ) (vs ws : List ℕ) → c ≤ a → cut_start reader c a ≡ c → a % reader + length vs ≤ reader → lands chip c a % chip + length vs ≤ chip
      → page_write reader chip image c a (vs ++ ws) ≡ page_write reader chip (sets image (lands chip c a) vs) c (a + length vs) ws
  unfolding page_write
  run_stores image c a [] ws h e r p = ap (λ (n : ℕ). page_write reader chip image c n ws) (sym (add-zero a))
  run_stores image c a (v ∷ []) ws h e r p = ap (λ (n : ℕ). page_write reader chip (set image (lands chip n a) v) n (a + 1) ws) e
  run_stores image c a (v ∷ w ∷ vs) ws h e r p =
      let to : lands chip c (a + 1) ≡ lands chip c a + 1 = lands_next chip c a h (omega arith) in
      let im : List ℕ = set image (lands chip c a) v in
      let next : a + 1 + length (w ∷ vs) ≡ a + length (v ∷ w ∷ vs) = omega arith in
      ap (λ (n : ℕ). page_write reader chip (set image (lands chip n a) v) n (a + 1) (w ∷ vs ++ ws)) e
      ∙ run_stores im c (a + 1) (w ∷ vs) ws (omega arith) (cut_on reader c a (omega arith)) (omega (arith, mod_next a reader (omega arith)))
      (omega (arith, to, ap (λ (n : ℕ). n % chip) to, mod_next (lands chip c a) chip (omega arith)))
      ∙ ap₂ (λ (n m : ℕ). page_write reader chip (sets im n (w ∷ vs)) c m ws) (to ∙ add-one (lands chip c a)) next

  -- one turn of the loop: a run, no longer than what is left of the reader page and of the chip page
  pub write_run : (image : List ℕ) (c a : ℕ) (vs ws : List ℕ) → c ≤ a → a % reader + length vs ≤ reader → lands chip (cut_start reader c a) a % chip + length vs ≤ chip
      → page_write reader chip image c a (vs ++ ws)
      ≡ page_write reader chip (sets image (lands chip (cut_start reader c a) a) vs) (cut_start reader c a) (a + length vs) ws
  write_run image c a vs ws h r p =
      write_from image c a (vs ++ ws) ∙ run_stores image (cut_start reader c a) a vs ws (cut_le reader c a h) (cut_again reader c a) r p

  pub write_end : (image : List ℕ) (c a : ℕ) (vs : List ℕ) → length vs ≡ 0 → page_write reader chip image c a vs ≡ image
  unfolding page_write
  write_end image c a vs e = ap (page_write reader chip image c a) (nil_from_length vs e)

-- ---- the reader page divides the chip page
module _ (reader chip : ℕ) (some : 0 < reader) (whole : reader ∣ chip) (room : 0 < chip) where
  -- what is left of the chip page from the start of a cut on holds what is left of the reader page
  within : (c : ℕ) → c % chip + (reader - c % reader) ≤ chip
  within c =
      let r : ℕ = c % chip in
      let same : r % reader ≡ c % reader = mod-mod_of_dvd reader c whole in
      let q : ℕ = chip / reader in
      let all : reader * q ≡ chip = mul-div_cancel' reader whole in
      let small : r < q * reader = subst⁻¹ (λ (n : ℕ). r < n) (mul_comm q reader ∙ all) (mod-lt c room) in
      let low : suc (r / reader) ≤ q = (div-lt_iff_lt-mul some).1 small in
      omega (arith, same, all, mul-le-mul_left reader low, mul-suc reader (r / reader), div-add-mod r reader, mod-lt r some)

  lands_here : (c a : ℕ) → c ≤ a → a < c - c % reader + reader → lands chip c a ≡ a
  unfolding lands
  lands_here c a h k =
      let inside : c % chip + (a - c) < chip = omega (arith, within c, mod-le c reader, mod-lt c some) in
      rw (mod-eq_of_lt inside) (omega (arith, mod-le c chip))

  -- the cut so far kept to its reader page
  cut_range : (image : List ℕ) (c a : ℕ) (vs : List ℕ) → c ≤ a → a ≤ c - c % reader + reader → page_write reader chip image c a vs ≡ sets image a vs
  unfolding page_write cut_start
  cut_range image c a [] h k = refl
  cut_range image c a (v ∷ vs) h k =
      either (λ (c' : ℕ). page_write reader chip (set image (lands chip c' a) v) c' (a + 1) vs ≡ sets (set image a v) (suc a) vs) _
      (λ e. step (λ im c'. cut_range im c' (a + 1) vs) a (omega arith) (omega (arith, eqb-true (a % reader) 0 e)))
      (λ e. step (λ im c'. cut_range im c' (a + 1) vs) c h (inner e))
    where
      step : ((im : List ℕ) (c' : ℕ) → c' ≤ a + 1 → a + 1 ≤ c' - c' % reader + reader → page_write reader chip im c' (a + 1) vs ≡ sets im (a + 1) vs)
          → (c' : ℕ) → c' ≤ a → a < c' - c' % reader + reader
          → page_write reader chip (set image (lands chip c' a) v) c' (a + 1) vs ≡ sets (set image a v) (suc a) vs
      step ih c' p q =
          ap (λ (n : ℕ). page_write reader chip (set image n v) c' (a + 1) vs) (lands_here c' a p q)
          ∙ ih (set image a v) c' (omega arith) (omega arith)
          ∙ ap (λ (n : ℕ). sets (set image a v) n vs) (add-one a)

      inner : a % reader is 0 ≡ false → a < c - c % reader + reader
      inner e = go (eqb a (c - c % reader + reader)) refl
        where
          go : (b : Bool) → eqb a (c - c % reader + reader) ≡ b → a < c - c % reader + reader
          go true d = absurd (eqb-false _ _ e (ap (λ (n : ℕ). n % reader) (eqb-true _ _ d) ∙ page_end reader c))
          go false d = omega (arith, eqb-false a (c - c % reader + reader) d)

  write_sets : (image : List ℕ) (at : ℕ) (vs : List ℕ) → page_write reader chip image at at vs ≡ sets image at vs
  write_sets image at vs = cut_range image at at vs (omega arith) (omega (arith, mod-le at reader, mod-lt at some))

-- "Where reader page is at most chip page, exactly the named range holds the data": stated of pages of which the reader's divides the
-- chip's, which of 8, 16, 32, 64 and 128 is the same.
pub page_stores : (reader chip : ℕ) → 0 < reader → 0 < chip → chip % reader ≡ 0 → (image : List ℕ) (at : ℕ) (vs : List ℕ)
    → page_write reader chip image at at vs ≡ sets image at vs
page_stores reader chip p q d image at vs = write_sets reader chip p (dvd_of_mod-eq-zero reader d) q image at vs

pub page_range : (reader chip : ℕ) → 0 < reader → 0 < chip → chip % reader ≡ 0 → (image : List ℕ) (at : ℕ) (vs : List ℕ) → at + length vs ≤ length image
    → page_write reader chip image at at vs ≡ take at image ++ vs ++ drop (at + length vs) image
page_range reader chip p q d image at vs h = page_stores reader chip p q d image at vs ∙ sets-eq vs image at h
