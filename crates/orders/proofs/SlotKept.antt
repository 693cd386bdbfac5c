-- What an order leaves of the slot: the same card, and a sound record beside the image as it is afterwards.
use Rattle.std.specs.Prelude.{Result, Ok, Err}
use mathlib.Core.Path.{◌≡◌, refl, sym, ap, ◌∙◌, subst}
use mathlib.Core.List.{List}
use mathlib.Core.Bool.{Bool, true, false}
use mathlib.Core.Logic.{◌⊎◌, inl, inr}
use Prim.Native.Nat.{ℕ, zero, suc, ◌^◌, ◌≤◌}
use native.Mathlib.Omega.{arith}
use lib.ListN.{length}
use lib.Dec.{leb}
use borrow.Author.Tests.{eq-eqb, eqb-false, leb-true}
use Rattle.std.specs.Prelude.{Option, Some}
use Rattle.words.specs.Choice.{◌and◌, ◌or◌, ◌is◌}
use Rattle.words.specs.Bytes.{byte}
use Rattle.words.proofs.Choices.{either, alike, and_true, both}
use Rattle.chips.specs.declared.Chip.{Chip}
use Rattle.chips.specs.declared.Facts.{Facts}
use Rattle.chips.specs.Kinds.{facts}
use Rattle.chips.proofs.KindLaws.{Coded, coded}
use Rattle.card.proofs.ImageLaws.{IsCard}
use Rattle.slot.specs.declared.Slot.{Slot}
use Rattle.slot.specs.Slots.{occupied, own_type, selecting, paged, open_as, tries_as, protected_as}
use Rattle.counts.specs.Counts.{tries_in, count_in, tries_of, protected_of, Counted}
use Rattle.counts.proofs.CardLaws.{tries_card, protected_card}
use Rattle.sound.specs.Sound.{full_code, page_size}
use Rattle.sound.proofs.SoundLaws.{Sound, image_sound, selecting_sound, paged_sound, opened_sound, closed_sound}
use Rattle.codes.specs.Counters.{tries}
use Rattle.codes.proofs.CodeLaws.{accepts_full}
use Rattle.steps.specs.declared.Status.{Status}
use Rattle.steps.specs.declared.Order.{Order}
use Rattle.steps.specs.declared.Ins.{Ins}
use Rattle.steps.specs.declared.Ins.TheVariants.{Select, Page, Read, Counter, Bits, Write, Protect, Present, Change, Other}
use Rattle.steps.specs.Steps.{p3, body, ordered, presents, order}
use Rattle.orders.specs.Orders.{after_code, right_code, image_by, slot_by}
use Rattle.steps.proofs.Decisions.{Passed, Decided, refused, through, decided, fit_decided}
use Rattle.steps.specs.Fits.{Fit}
use Rattle.orders.proofs.ImageKept.{length_image_by, counter_kept, count_written, count_presented, count_changed}

-- what a select, a page, a code presented and bytes protected leave alone, every order leaves alone
module _ {A : Type 0} (g : Slot → A) (f : Facts) (s : Slot) (image b : List ℕ) (typed : g (selecting f.selects s) ≡ g s) (sized : (p : ℕ) → g (paged p s) ≡ g s)
    (presented : (o : Bool) (n : ℕ) → g (open_as o (tries_as n s)) ≡ g s) (guarded : (n : ℕ) → g (protected_as n s) ≡ g s) where
  slot_by_kept : (o : Result Order Status) → g (slot_by f s image b o) ≡ g s
  unfolding slot_by
  slot_by_kept (Err status) = refl
  slot_by_kept (Ok Order.Select) = typed
  slot_by_kept (Ok (Order.Page p)) = sized p
  slot_by_kept (Ok (Order.Read at n)) = refl
  slot_by_kept (Ok (Order.Counter n)) = refl
  slot_by_kept (Ok (Order.Bits at n)) = refl
  slot_by_kept (Ok (Order.Write at)) = refl
  slot_by_kept (Ok (Order.Protect at)) = guarded _
  slot_by_kept (Ok Order.Present) = either (λ (x : Slot). g x ≡ g s) _ (λ _. presented true _) (λ _. presented false _)
  slot_by_kept (Ok Order.Change) = refl

-- the card stays the same card, and the parameters stay
pub slot_by_holds : (f : Facts) (s : Slot) (image b : List ℕ) (o : Result Order Status) → (slot_by f s image b o).holds ≡ s.holds
slot_by_holds f s image b = slot_by_kept (λ (t : Slot). t.holds) f s image b refl (λ _. refl) (λ _ _. refl) (λ _. refl)

pub slot_by_set : (f : Facts) (s : Slot) (image b : List ℕ) (o : Result Order Status) → (slot_by f s image b o).set ≡ s.set
slot_by_set f s image b = slot_by_kept (λ (t : Slot). t.set) f s image b refl (λ _. refl) (λ _ _. refl) (λ _. refl)

-- the codes 03h..07h give page sizes
pub page_sized : (v : ℕ) → leb 3 v and leb v 7 ≡ true → page_size (2 ^ v) ≡ true
unfolding page_size ◌or◌
page_sized v e = go v (leb-true _ _ (and_true _ _ e).0) (leb-true _ _ (and_true _ _ e).1)
  where
    go : (v : ℕ) → 3 ≤ v → v ≤ 7 → page_size (2 ^ v) ≡ true
    go zero h k = absurd (omega arith)
    go (suc zero) h k = absurd (omega arith)
    go (suc (suc zero)) h k = absurd (omega arith)
    go (suc (suc (suc zero))) h k = refl
    go (suc (suc (suc (suc zero)))) h k = refl
    go (suc (suc (suc (suc (suc zero))))) h k = refl
    go (suc (suc (suc (suc (suc (suc zero)))))) h k = refl
    go (suc (suc (suc (suc (suc (suc (suc zero))))))) h k = refl
    go (suc (suc (suc (suc (suc (suc (suc (suc v)))))))) h k = absurd (omega arith)

-- whether a counter is full, and how many tries it has, is told by its byte alone, and a card without a code has none
module _ (chip : Chip) (image image' : List ℕ) (same : (facts chip).coded ≡ true → byte image' (facts chip).counter ≡ byte image (facts chip).counter) where
  full_same : full_code (Some chip) image' ≡ full_code (Some chip) image
  unfolding ◌and◌
  full_same = go (facts chip).coded same
    where
      go : (t : Bool) → (t ≡ true → byte image' (facts chip).counter ≡ byte image (facts chip).counter)
          → (t and byte image' (facts chip).counter is (facts chip).full) ≡ (t and byte image (facts chip).counter is (facts chip).full)
      go true h = ap (λ (n : ℕ). n is (facts chip).full) (h refl)
      go false h = refl

  tries_same : tries_of (Some chip) image' ≡ tries_of (Some chip) image
  tries_same = alike (facts chip).coded (λ e. ap tries (same e)) (λ _. refl)

module _ (chip : Chip) (s : Slot) (image d : List ℕ) (holds : s.holds ≡ Some chip) (on : s.active ≡ true) (card : IsCard (facts chip) image) (r : Sound s image) where
  abbrev After : Result Order Status → Type 0
  After o = Sound (slot_by (facts chip) s image (body d) o) (image_by (facts chip) s image (body d) o)

  -- an image of this length has the number of protected bytes that the card has
  counts_of : (im : List ℕ) → length im ≡ length image → protected_of s.holds im ≡ count_in (facts chip) im
  counts_of im e = ap (λ (x : Option Chip). protected_of x im) holds ∙ protected_card chip im (e ∙ card.long)

  -- a changed image, and the number of protected bytes that it has then
  moved : (o : Result Order Status) (n : ℕ) → Fit (facts chip) (body d) o → presents o ≡ false → n ≡ count_in (facts chip) (image_by (facts chip) s image (body d) o)
      → Sound (protected_as n s) (image_by (facts chip) s image (body d) o)
  moved o n h ne counted =
      let im : List ℕ = image_by (facts chip) s image (body d) o in
      let same : (facts chip).coded ≡ true → byte im (facts chip).counter ≡ byte image (facts chip).counter =
      λ e. counter_kept (facts chip) (coded chip e) s image (body d) o h ne in
      image_sound s image im n
      (ap (λ (x : Option Chip). full_code x im) holds ∙ full_same chip image im same ∙ sym (ap (λ (x : Option Chip). full_code x image) holds))
      (ap (λ (x : Option Chip). tries_of x im) holds ∙ tries_same chip image im same ∙ sym (ap (λ (x : Option Chip). tries_of x image) holds))
      (counted ∙ sym (counts_of im (length_image_by (facts chip) s image (body d) o)))
      r

  -- the number that the record has is the image's
  had : s.protected ≡ count_in (facts chip) image
  had = r.counts.protected ∙ counts_of image refl

  -- a selected type is the card's own
  chosen : s.selected is 0 ≡ false → s.selected ≡ own_type s.holds
  chosen e = go r.own
    where
      go : (s.selected ≡ 0) ⊎ (s.selected ≡ own_type s.holds) → s.selected ≡ own_type s.holds
      go (inl h) = absurd (eqb-false _ _ e h)
      go (inr h) = h

  presented : (facts chip).coded ≡ true → s.selected is 0 ≡ false → After (Ok Order.Present)
  unfolding slot_by image_by
  presented e t =
      let c : Coded (facts chip) = coded chip e in
      let im : List ℕ = after_code (facts chip) image (body d) in
      let counts : Counted (tries_as (tries_in (facts chip) im) s) im =
      record {
        tries = sym (ap (λ (x : Option Chip). tries_of x im) holds ∙ tries_card chip im e);
        protected = had ∙ sym (count_presented chip s image (body d)) ∙ sym (counts_of im (length_image_by (facts chip) s image (body d) (Ok Order.Present)));
      } in
      either (λ (x : Slot). Sound x im) (right_code (facts chip) image (body d))
      (λ yes. opened_sound s image on r im _ counts
      (ap (λ (x : Option Chip). full_code x im) holds
      ∙ both e (eq-eqb _ _ (accepts_full (facts chip).counter (facts chip).full (facts chip).code (facts chip).digits image (body d) (omega (arith, card.long, c.inside)) yes)))
      (chosen t))
      (λ no. closed_sound s image on r im _ counts)

  pub decided_sound : {o : Result Order Status} → Decided (facts chip) s d o → After o
  unfolding slot_by image_by ◌and◌
  decided_sound (refused status) = r
  decided_sound (through i at p) = go i at p
    where
      go : (i : Ins) (at : ℕ) → Passed (facts chip) s d i at → After (ordered i at (p3 d) (byte d 5))
      go Select at p = subst (λ (t : ℕ). Sound (selecting t s) image) (ap own_type holds) (selecting_sound s image on r)
      go Page at p = paged_sound s image (2 ^ byte d 5) (page_sized (byte d 5) p.valued) (ap occupied holds) r
      go Read at p = r
      go Counter at p = r
      go Bits at p = r
      go Write at p =
          let h = fit_decided (facts chip) s d (through Write at p) in
          moved (Ok (Order.Write at)) s.protected h refl (had ∙ sym (count_written chip s image (body d) s.page at h.0))
      go Protect at p = moved (Ok (Order.Protect at)) _ (fit_decided (facts chip) s d (through Protect at p)) refl refl
      go Present at p = presented p.had p.ready
      go Change at p =
          let h = fit_decided (facts chip) s d (through Change at p) in
          moved (Ok Order.Change) s.protected h refl (had ∙ sym (count_changed chip s image (body d) h.1))
      go Other at p = r

  -- a command of an active slot leaves a sound record
  pub order_sound : After (order (facts chip) s d)
  order_sound = decided_sound (decided (facts chip) s d)
