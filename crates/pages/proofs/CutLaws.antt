-- The page rule over any numbers: where each byte of a write lands, that a cut stays in its chip page, and what every place of the image holds
-- afterwards.
use mathlib.Core.Path.{◌≡◌, refl, sym, ap, ap₂, ◌∙◌}
use mathlib.Core.List.{List, [], ◌∷◌}
use mathlib.Core.Bool.{Bool, true, false}
use Prim.Native.Nat.{ℕ, zero, suc, ◌+◌, ◌-◌, ◌*◌, ◌/◌, ◌%◌, ◌≤◌, ◌<◌}
use native.Mathlib.Nat.{div-add-mod, mul-add-div, div-eq_of_lt, add-zero, mod-lt, mod-le}
use native.Mathlib.Omega.{arith}
use lib.ListN.{length, set, length-set}
use lib.Seq.{get_or-set_same, get_or-set_other}
use lib.Dec.{leb, eqb}
use borrow.Author.Tests.{eqb-true, eqb-false, le-leb, lt-leb}
use Rattle.words.specs.Choice.{◌⇒◌⁏◌, ◌is◌}
use Rattle.words.specs.Bytes.{byte}
use Rattle.words.proofs.Choices.{first, rest, either}
use Rattle.words.proofs.Lists.{mod_next}
use Rattle.pages.specs.Pages.{cut_start, lands, page_write}
use Rattle.pages.specs.Cuts.{cut_of, Paged}
use Rattle.pages.proofs.PageLaws.{page_end, lands_inside, page_range}

-- ---- a cut stays in its chip page
pub lands_page : (chip c a : ℕ) → 0 < chip → lands chip c a / chip ≡ c / chip
unfolding lands
lands_page chip c a p =
    let x : ℕ = (c % chip + (a - c)) % chip in
    let base : c - c % chip ≡ chip * (c / chip) = omega (arith, div-add-mod c chip) in
    ap (λ (n : ℕ). (n + x) / chip) base
    ∙ mul-add-div p (c / chip) x
    ∙ ap (λ (n : ℕ). c / chip + n) (div-eq_of_lt (mod-lt (c % chip + (a - c)) p))
    ∙ add-zero (c / chip)

module _ (reader : ℕ) (some : 0 < reader) where
  -- past the end of a reader page the next begins
  next_page : (a : ℕ) → a % reader + 1 ≡ reader → (a + 1) % reader ≡ 0
  next_page a e = ap (λ (n : ℕ). n % reader) (let q : a + 1 ≡ a - a % reader + reader = omega (arith, mod-le a reader) in q) ∙ page_end reader a

  -- before it the last multiple stays the last
  same_page : (a : ℕ) → ((a + 1) % reader ≡ 0 → ⊥) → a + 1 - (a + 1) % reader ≡ a - a % reader
  same_page a n = go (eqb (a % reader + 1) reader) refl
    where
      go : (b : Bool) → eqb (a % reader + 1) reader ≡ b → a + 1 - (a + 1) % reader ≡ a - a % reader
      go true e = absurd (n (next_page a (eqb-true _ _ e)))
      go false e = omega (arith, mod_next a reader (omega (arith, eqb-false (a % reader + 1) reader e, mod-lt a some)))

  module _ (at : ℕ) where
    -- ---- the cut of an address, step by step
    cut_first : (c : ℕ) → c ≡ at → cut_start reader c at ≡ cut_of reader at at
    unfolding cut_start cut_of
    cut_first c e =
        either (λ (n : ℕ). n ≡ (leb at (at - at % reader) ⇒ at - at % reader ⁏ at)) (at % reader is 0)
        (λ z. sym (either (λ (n : ℕ). n ≡ at) (leb at (at - at % reader)) (λ _. omega (arith, eqb-true (at % reader) 0 z)) (λ _. refl)))
        (λ z. e ∙ sym (rest _ _ (lt-leb at (at - at % reader) (omega (arith, eqb-false (at % reader) 0 z, mod-le at reader)))))

    cut_begins : (a : ℕ) → at ≤ a → a % reader ≡ 0 → a ≡ cut_of reader at a
    unfolding cut_of
    cut_begins a h z =
        let e : a - a % reader ≡ a = omega arith in
        sym (first _ _ (le-leb at (a - a % reader) (omega arith)) ∙ e)

    cut_goes : (a : ℕ) → ((a + 1) % reader ≡ 0 → ⊥) → cut_of reader at a ≡ cut_of reader at (a + 1)
    unfolding cut_of
    cut_goes a z = ap (λ (n : ℕ). leb at n ⇒ n ⁏ at) (sym (same_page a z))

    cut_next : (a : ℕ) → at ≤ a → cut_start reader (cut_of reader at a) (a + 1) ≡ cut_of reader at (a + 1)
    unfolding cut_start
    cut_next a h =
        either (λ (n : ℕ). n ≡ cut_of reader at (a + 1)) ((a + 1) % reader is 0)
        (λ z. cut_begins (a + 1) (omega arith) (eqb-true _ 0 z))
        (λ z. cut_goes a (eqb-false _ 0 z))

    cut_of_le : (a : ℕ) → at ≤ a → cut_of reader at a ≤ a
    unfolding cut_of
    cut_of_le a h = either (λ (n : ℕ). n ≤ a) (leb at (a - a % reader)) (λ _. omega arith) (λ _. h)

    module _ (chip : ℕ) where
      -- where the byte for address a lands
      abbrev land : ℕ → ℕ
      land a = lands chip (cut_of reader at a) a

      -- a byte more: it is laid where it lands, and the cut goes on
      write_more : (image : List ℕ) (c a v : ℕ) (vs : List ℕ) → cut_start reader c a ≡ cut_of reader at a
          → page_write reader chip image c a (v ∷ vs) ≡ page_write reader chip (set image (land a) v) (cut_of reader at a) (a + 1) vs
      unfolding page_write
      write_more image c a v vs e = ap (λ (n : ℕ). page_write reader chip (set image (lands chip n a) v) n (a + 1) vs) e

      -- where none lands, nothing changes
      write_kept : (image : List ℕ) (c a k : ℕ) (vs : List ℕ) → cut_start reader c a ≡ cut_of reader at a → at ≤ a
          → ((j : ℕ) → j < length vs → land (a + j) ≡ k → ⊥) → byte (page_write reader chip image c a vs) k ≡ byte image k
      unfolding page_write
      write_kept image c a k [] e h n = refl
      write_kept image c a k (v ∷ vs) e h n =
          ap (λ (l : List ℕ). byte l k) (write_more image c a v vs e)
          ∙ write_kept (set image (land a) v) (cut_of reader at a) (a + 1) k vs (cut_next a h) (omega arith)
          (λ j l q. n (suc j) (omega arith) (ap land (let s : a + suc j ≡ a + 1 + j = omega arith in s) ∙ q))
          ∙ get_or-set_other image (land a) k v 0 (λ q. n 0 (omega arith) (ap land (add-zero a) ∙ sym q))

      -- the last byte that lands somewhere is held there
      write_last : (image : List ℕ) (c a : ℕ) (vs : List ℕ) (j : ℕ) → cut_start reader c a ≡ cut_of reader at a → at ≤ a → j < length vs
          → ((i : ℕ) → j < i → i < length vs → land (a + i) ≡ land (a + j) → ⊥) → land (a + j) < length image
          → byte (page_write reader chip image c a vs) (land (a + j)) ≡ byte vs j
      write_last image c a [] j e h l n b = absurd (omega arith)
      write_last image c a (v ∷ vs) zero e h l n b =
          let here : land (a + 0) ≡ land a = ap land (add-zero a) in
          let im : List ℕ = set image (land a) v in
          ap (λ (x : List ℕ). byte x (land (a + 0))) (write_more image c a v vs e)
          ∙ write_kept im (cut_of reader at a) (a + 1) (land (a + 0)) vs (cut_next a h) (omega arith)
          (λ i k q. n (suc i) (omega arith) (omega arith) (ap land (let s : a + suc i ≡ a + 1 + i = omega arith in s) ∙ q))
          ∙ ap (byte im) here
          ∙ get_or-set_same image (land a) v 0 (omega (arith, here, b))
      write_last image c a (v ∷ vs) (suc j) e h l n b =
          let im : List ℕ = set image (land a) v in
          let step : a + suc j ≡ a + 1 + j = omega arith in
          ap₂ (λ (x : List ℕ) (m : ℕ). byte x (land m)) (write_more image c a v vs e) step
          ∙ write_last im (cut_of reader at a) (a + 1) vs j (cut_next a h) (omega arith) (omega arith)
          (λ i k r q. n (suc i) (omega arith) (omega arith)
          (ap land (let s : a + suc i ≡ a + 1 + i = omega arith in s) ∙ q ∙ ap land (sym step)))
          (omega (arith, b, ap land step, length-set image (land a) v))

-- "The page rule is proved once over all chips": over any numbers
pub page_rule : (reader chip : ℕ) → 0 < reader → 0 < chip → (image : List ℕ) (at : ℕ) (vs : List ℕ) → at + length vs ≤ length image → length image % chip ≡ 0
    → Paged reader chip image at vs (page_write reader chip image at at vs)
page_rule reader chip p q image at vs room whole = record {
  range = λ d. page_range reader chip p q d image at vs room;
  stays = λ j. lands_page chip (cut_of reader at (at + j)) (at + j) q;
  last = λ j l n. write_last reader p at chip image at at vs j (cut_first reader p at at refl) (omega arith) l n
      (lands_inside chip (cut_of reader at (at + j)) (at + j) (length image) q (cut_of_le reader p at (at + j) (omega arith)) (omega arith) whole);
  kept = λ k n. write_kept reader p at chip image at at k vs (cut_first reader p at at refl) (omega arith) n;
}
