-- An I2C card of any size with its type selected (`seated`, `seat_image`): slot and image pass tests 3 and 4, by law and without looking through a large
-- image, so that a transfer to it without a fault is heard.
use Prim.Native.Nat.{ℕ, ◌-◌, ◌≤◌, ◌<◌}
use mathlib.Core.Path.{◌≡◌, refl, sym, ap, ◌∙◌}
use mathlib.Core.Bool.{Bool, true, false, true≢false, false≢true}
use mathlib.Core.Logic.{inr}
use mathlib.Core.List.{List}
use native.Mathlib.Omega.{arith}
use lib.ListN.{length, length-replicate}
use lib.Dec.{leb, ltb}
use borrow.Author.Tests.{ltb-true, ltb-false}
use Rattle.std.specs.Prelude.{Some}
use Rattle.words.specs.Bounds.{least_room}
use Rattle.words.proofs.Choices.{either, rest, both}
use Rattle.words.proofs.Lists.{blank_end}
use Rattle.chips.specs.declared.Chip.{Chip}
use Rattle.chips.specs.declared.Facts.{Facts}
use Rattle.chips.specs.Kinds.{facts}
use Rattle.chips.proofs.KindLaws.{laid, coded, zeroed, pages_bare}
use Rattle.bits.proofs.CountLaws.{count_within}
use Rattle.card.specs.Images.{is_card}
use Rattle.card.proofs.ImageLaws.{plain_test}
use Rattle.slot.specs.declared.Slot.{Slot}
use Rattle.counts.specs.Counts.{tries_of, protected_of}
use Rattle.sound.specs.Sound.{page_size}
use Rattle.sound.proofs.SoundLaws.{Sound, default_sound, sound_whole}
use Rattle.faults.specs.declared.Request.{Request}
use Rattle.faults.specs.declared.Request.TheVariants.{Transfer}
use Rattle.faults.specs.Faults.{type_byte, request_of, fault_of, is_clear}
use Rattle.reader.specs.Heard.{heard, transfers}
use Rattle.vectors.specs.Sessions.{selected_slot}
use Rattle.promise.specs.Sequences.{sent_with}
use Rattle.promise.specs.Seats.{seated, seat_image}
use Rattle.promise.proofs.Reached.{transfers_is}

module _ (chip : Chip) (some : 0 < (facts chip).page) where
  abbrev f : Facts
  f = facts chip

  abbrev image : List ℕ
  image = seat_image chip

  -- ---- the image is one of its cards
  no_code : f.coded ≡ false
  no_code = go f.coded refl
    where
      go : (b : Bool) → f.coded ≡ b → f.coded ≡ false
      go true e = absurd (omega (arith, (coded chip e).pageless))
      go false e = e

  filled : f.size ≤ f.zeros
  filled = go (ltb f.zeros f.size) refl
    where
      go : (b : Bool) → ltb f.zeros f.size ≡ b → f.size ≤ f.zeros
      go true e = absurd (omega (arith, (zeroed chip (ltb-true _ _ e)).pageless))
      go false e = ltb-false _ _ e

  long : length image ≡ f.size
  unfolding seat_image
  long = omega (arith, length-replicate {A = ℕ} (f.size - 1) 0xFF, (laid chip).four)

  seat_card : is_card f image ≡ true
  seat_card = sym (plain_test chip image no_code long) ∙ blank_end image f.zeros (omega (arith, long, filled))

  -- ---- its counts are 0
  no_tries : tries_of (Some chip) image ≡ 0
  no_tries = rest _ _ no_code

  none_protected : protected_of (Some chip) image ≡ 0
  none_protected =
      either (λ (n : ℕ). n ≡ 0) _ (λ _. let few = count_within f.bits f.covered image in omega (arith, few, pages_bare chip some)) (λ _. refl)

  module _ (chosen : Bool) (page : ℕ) (sized : page_size page ≡ true) where
    abbrev slot : Slot
    slot = seated chip chosen page

    seat_sound : Sound slot image
    unfolding selected_slot
    seat_sound = record {
      sized = sized;
      empty = λ h. absurd (true≢false h);
      idle = λ h. absurd (true≢false h);
      own = inr refl;
      sure = λ h. absurd (false≢true h);
      set = default_sound (Some chip);
      counts = record { tries = sym no_tries; protected = sym none_protected };
    }

    -- ---- a transfer without a fault is heard
    module _ (m : List ℕ) (header : leb 10 (length m) ≡ true) (asked : transfers (request_of (type_byte m)) ≡ true) (clear : is_clear (fault_of Transfer slot m) ≡ true) where
      pub seat_transfer : request_of (type_byte m) ≡ Transfer
      seat_transfer = transfers_is _ asked

      pub seat_heard : heard slot image (sent_with m least_room) ≡ true
      unfolding heard selected_slot
      seat_heard =
          both refl (both header (both seat_card (both (sound_whole slot image seat_sound)
          (ap (λ (r : Request). is_clear (fault_of r slot m)) seat_transfer ∙ clear))))
