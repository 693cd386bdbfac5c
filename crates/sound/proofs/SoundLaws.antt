-- Laws of a sound slot: the seven conditions taken apart, and that each change of the record keeps them.
use mathlib.Core.Path.{◌≡◌, refl, sym, ap, ◌∙◌}
use mathlib.Core.List.{List}
use mathlib.Core.Bool.{Bool, true, false, not, true≢false, false≢true}
use mathlib.Core.Logic.{◌⊎◌, inl, inr}
use Prim.Native.Nat.{ℕ}
use lib.ListN.{length}
use borrow.Author.Tests.{eqb-true, eq-eqb, not-true}
use Rattle.std.specs.Prelude.{Option, Some, None}
use Rattle.words.specs.Choice.{◌and◌, ◌or◌, ◌is◌}
use Rattle.words.proofs.Choices.{either, and_fails, and_holds, and_true, or_true, means_true, both, or_left, or_right, meaning}
use Rattle.chips.specs.declared.Chip.{Chip}
use Rattle.chips.specs.Kinds.{facts}
use Rattle.card.proofs.ImageLaws.{card_parts}
use Rattle.sets.specs.Sets.{default_set, takes}
use Rattle.sets.proofs.SetLaws.{default_taken}
use Rattle.slot.specs.declared.Slot.{Slot}
use Rattle.slot.specs.Slots.{occupied, own_type, page_for, page_after, removed, powered, selecting, paged, opened, closed, set_as, defaulted, tries_as, protected_as}
use Rattle.counts.specs.Counts.{tries_of, protected_of, Counted, put_in}
use Rattle.sound.specs.Sound.{full_code, image_is_card, page_size, empty_sound, idle_sound, type_sound, open_sound, set_sound, counts_sound, sound}

-- "It is sound when", as facts
pub record Sound (s : Slot) (image : List ℕ) : Type 0 where
  pub sized : page_size s.page ≡ true
  pub empty : occupied s.holds ≡ false → (s.active ≡ false) × (s.page ≡ 8) × (s.chosen ≡ false)
  pub idle : s.active ≡ false → (s.selected ≡ 0) × (s.«open» ≡ false)
  pub own : (s.selected ≡ 0) ⊎ (s.selected ≡ own_type s.holds)
  pub sure : s.«open» ≡ true → (full_code s.holds image ≡ true) × (s.selected ≡ own_type s.holds)
  pub set : set_sound s.holds s.set ≡ true
  pub counts : Counted s image

-- the seven in the order that code asks them: the set early, the counts at the end
set_later : (p s e i t o c : Bool) → (p and s and e and i and t and o) and c ≡ (p and e and i and t and o and s and c)
unfolding ◌and◌
set_later false s e i t o c = refl
set_later true true false i t o c = refl
set_later true true true false t o c = refl
set_later true true true true false o c = refl
set_later true true true true true o c = refl
set_later true false false i t o c = refl
set_later true false true false t o c = refl
set_later true false true true false o c = refl
set_later true false true true true true c = refl
set_later true false true true true false c = refl

pub six_and_counts : (s : Slot) (image : List ℕ)
    → (page_size s.page and set_sound s.holds s.set and empty_sound s and idle_sound s and type_sound s and open_sound s image) and counts_sound s image ≡ sound s image
unfolding sound
six_and_counts s image = set_later (page_size s.page) (set_sound s.holds s.set) (empty_sound s) (idle_sound s) (type_sound s) (open_sound s image) (counts_sound s image)

-- so the counts decide where the six hold, and a test of the six that fails decides alone
pub six_hold : (s : Slot) (image : List ℕ)
    → page_size s.page and set_sound s.holds s.set and empty_sound s and idle_sound s and type_sound s and open_sound s image ≡ true
    → counts_sound s image ≡ sound s image
six_hold s image e = and_holds e refl ∙ six_and_counts s image

pub six_fail : (s : Slot) (image : List ℕ)
    → page_size s.page and set_sound s.holds s.set and empty_sound s and idle_sound s and type_sound s and open_sound s image ≡ false
    → sound s image ≡ false
six_fail s image e = sym (and_fails (counts_sound s image) e ∙ six_and_counts s image)

pub ruleset six = (six_hold, six_fail)

-- an image of the card that is in has its length
pub card_sized : (h : Option Chip) (chip : Chip) (image : List ℕ) → image_is_card h image ≡ true → h ≡ Some chip → length image ≡ (facts chip).size
card_sized h chip image e i = (card_parts _ _ (sym (ap (λ (o : Option Chip). image_is_card o image) i) ∙ e)).long

-- the default is sound beside every card, and with none
pub default_sound : (h : Option Chip) → set_sound h default_set ≡ true
unfolding set_sound
default_sound h = both default_taken (meaning _ (λ _. eq-eqb default_set default_set refl))

-- pages 8 and 32 are two of them
sized8 : page_size 8 ≡ true
unfolding page_size ◌or◌
sized8 = refl

sized32 : page_size 32 ≡ true
unfolding page_size ◌or◌
sized32 = refl

-- the page after A4 is one where the page before is
for_sized : (t p : ℕ) → page_size p ≡ true → page_size (page_for t p) ≡ true
unfolding page_for
for_sized t p e = let P : ℕ → Type 0 = λ n. page_size n ≡ true in either P (t is 2) (λ _. sized32) (λ _. either P (t is 1) (λ _. sized8) (λ _. e))

after_sized : (t : ℕ) (s : Slot) → page_size s.page ≡ true → page_size (page_after t s) ≡ true
unfolding page_after
after_sized t s e = either (λ (n : ℕ). page_size n ≡ true) s.chosen (λ _. e) (λ _. for_sized t s.page e)

module _ (s : Slot) (image : List ℕ) where
  own_parts : (s.selected is 0 ≡ true) ⊎ (s.selected is own_type s.holds ≡ true) → (s.selected ≡ 0) ⊎ (s.selected ≡ own_type s.holds)
  own_parts (inl e) = inl (eqb-true _ _ e)
  own_parts (inr e) = inr (eqb-true _ _ e)

  own_whole : (s.selected ≡ 0) ⊎ (s.selected ≡ own_type s.holds) → s.selected is 0 or s.selected is own_type s.holds ≡ true
  own_whole (inl e) = or_left _ (eq-eqb _ _ e)
  own_whole (inr e) = or_right _ (eq-eqb _ _ e)

  pub sound_parts : sound s image ≡ true → Sound s image
  unfolding sound empty_sound idle_sound type_sound open_sound counts_sound
  sound_parts e =
      let t1 = and_true _ _ e in
      let t2 = and_true _ _ t1.1 in
      let t3 = and_true _ _ t2.1 in
      let t4 = and_true _ _ t3.1 in
      let t5 = and_true _ _ t4.1 in
      let t6 = and_true _ _ t5.1 in
      let t7 = and_true _ _ t6.1 in
      record {
        sized = t1.0;
        empty = λ h. let u = and_true _ _ (means_true _ _ t2.0 (ap not h)) in let v = and_true _ _ u.1 in (not-true _ u.0, eqb-true _ _ v.0, not-true _ v.1);
        idle = λ h. let u = and_true _ _ (means_true _ _ t3.0 (ap not h)) in (eqb-true _ _ u.0, not-true _ u.1);
        own = own_parts (or_true _ _ t4.0);
        sure = λ h. let u = and_true _ _ (means_true _ _ t5.0 h) in (u.0, eqb-true _ _ u.1);
        set = t6.0;
        counts = record { tries = eqb-true _ _ t7.0; protected = eqb-true _ _ t7.1 };
      }

  pub sound_whole : Sound s image → sound s image ≡ true
  unfolding sound empty_sound idle_sound type_sound open_sound counts_sound
  sound_whole r =
      both r.sized
      (both (meaning _ (λ h. let u = r.empty (not-true _ h) in both (ap not u.0) (both (eq-eqb _ _ u.1) (ap not u.2))))
      (both (meaning _ (λ h. let u = r.idle (not-true _ h) in both (eq-eqb _ _ u.0) (ap not u.1)))
      (both (own_whole r.own)
      (both (meaning _ (λ h. let u = r.sure h in both u.0 (eq-eqb _ _ u.1)))
      (both r.set
      (both (eq-eqb _ _ r.counts.tries) (eq-eqb _ _ r.counts.protected)))))))

  -- ---- the changes
  -- the image, with the number of protected bytes that it has then
  pub image_sound : (image' : List ℕ) (n : ℕ) → full_code s.holds image' ≡ full_code s.holds image → tries_of s.holds image' ≡ tries_of s.holds image
      → n ≡ protected_of s.holds image' → Sound s image → Sound (protected_as n s) image'
  image_sound image' n e t p r = record {
    sized = r.sized;
    empty = r.empty;
    idle = r.idle;
    own = r.own;
    sure = λ h. (e ∙ (r.sure h).0, (r.sure h).1);
    set = r.set;
    counts = record { tries = r.counts.tries ∙ sym t; protected = p };
  }

  pub on_sound : occupied s.holds ≡ true → Sound s image → Sound (powered true s) image
  on_sound e r = record {
    sized = r.sized;
    empty = λ h. absurd (true≢false (sym e ∙ h));
    idle = λ h. absurd (true≢false h);
    own = inl refl;
    sure = λ h. absurd (false≢true h);
    set = r.set;
    counts = record { tries = r.counts.tries; protected = r.counts.protected };
  }

  pub off_sound : Sound s image → Sound (powered false s) image
  off_sound r = record {
    sized = r.sized;
    empty = λ h. (refl, (r.empty h).1, (r.empty h).2);
    idle = λ h. (refl, refl);
    own = inl refl;
    sure = λ h. absurd (false≢true h);
    set = r.set;
    counts = record { tries = r.counts.tries; protected = r.counts.protected };
  }

  module _ (on : s.active ≡ true) (r : Sound s image) where
    awake : {A : Type 0} → s.active ≡ false → A
    awake h = absurd (true≢false (sym on ∙ h))

    pub selecting_sound : Sound (selecting (own_type s.holds) s) image
    selecting_sound = record {
      sized = after_sized (own_type s.holds) s r.sized;
      empty = λ h. awake (r.empty h).0;
      idle = awake;
      own = inr refl;
      sure = λ h. absurd (false≢true h);
      set = r.set;
      counts = record { tries = r.counts.tries; protected = r.counts.protected };
    }

    -- a code presented: tries left are those of the image then
    module _ (image' : List ℕ) (left : ℕ) (counts : Counted (tries_as left s) image') where
      pub closed_sound : Sound (closed (tries_as left s)) image'
      closed_sound = record {
        sized = r.sized;
        empty = r.empty;
        idle = awake;
        own = r.own;
        sure = λ h. absurd (false≢true h);
        set = r.set;
        counts = record { tries = counts.tries; protected = counts.protected };
      }

      pub opened_sound : full_code s.holds image' ≡ true → s.selected ≡ own_type s.holds → Sound (opened (tries_as left s)) image'
      opened_sound e t = record {
        sized = r.sized;
        empty = r.empty;
        idle = awake;
        own = inr t;
        sure = λ h. (e, t);
        set = r.set;
        counts = record { tries = counts.tries; protected = counts.protected };
      }

  pub paged_sound : (p : ℕ) → page_size p ≡ true → occupied s.holds ≡ true → Sound s image → Sound (paged p s) image
  paged_sound p e h r = record {
    sized = e;
    empty = λ k. absurd (true≢false (sym h ∙ k));
    idle = r.idle;
    own = r.own;
    sure = r.sure;
    set = r.set;
    counts = record { tries = r.counts.tries; protected = r.counts.protected };
  }

  -- a set that 61h takes, where a card is in; and the default
  pub set_sound_lem : (set : ℕ) → takes set ≡ true → occupied s.holds ≡ true → Sound s image → Sound (set_as set s) image
  unfolding set_sound
  set_sound_lem set e h r = record {
    sized = r.sized;
    empty = r.empty;
    idle = r.idle;
    own = r.own;
    sure = r.sure;
    set = both e (meaning _ (λ k. absurd (true≢false (sym h ∙ not-true _ k))));
    counts = record { tries = r.counts.tries; protected = r.counts.protected };
  }

  pub defaulted_sound : Sound s image → Sound (defaulted s) image
  defaulted_sound r = record {
    sized = r.sized;
    empty = r.empty;
    idle = r.idle;
    own = r.own;
    sure = r.sure;
    set = default_sound s.holds;
    counts = record { tries = r.counts.tries; protected = r.counts.protected };
  }

-- a card just put in is sound beside its image, and a slot with none beside every image
module _ (image : List ℕ) where
  pub inserted_sound : (chip : Chip) → sound (put_in chip image) image ≡ true
  inserted_sound chip = sound_whole (put_in chip image) image record {
    sized = sized8;
    empty = λ h. absurd (true≢false h);
    idle = λ h. (refl, refl);
    own = inl refl;
    sure = λ h. absurd (false≢true h);
    set = default_sound (Some chip);
    counts = record { tries = refl; protected = refl };
  }

  pub removed_sound : sound removed image ≡ true
  removed_sound = sound_whole removed image record {
    sized = sized8;
    empty = λ h. (refl, refl, refl);
    idle = λ h. (refl, refl);
    own = inl refl;
    sure = λ h. absurd (false≢true h);
    set = default_sound None;
    counts = record { tries = refl; protected = refl };
  }
