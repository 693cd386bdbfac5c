-- A sound slot stays sound and a card stays a card: every message that is answered leaves both, one that is turned down changes neither,
-- and no message changes which card is in.
use Prim.Native.Nat.{ℕ, ◌≤◌}
use mathlib.Core.Path.{◌≡◌, refl, sym, ap, ◌∙◌, subst⁻¹}
use mathlib.Core.Bool.{true, not}
use mathlib.Core.List.{List}
use native.Mathlib.Omega.{arith}
use lib.ListN.{length}
use borrow.Author.Tests.{le-ltb, not-false}
use Rattle.std.specs.Prelude.{Option, Some, None}
use Rattle.words.specs.Bounds.{least_room}
use Rattle.words.proofs.Choices.{rest, either}
use Rattle.chips.specs.declared.Chip.{Chip}
use Rattle.chips.specs.Kinds.{facts}
use Rattle.sets.specs.Sets.{set_of}
use Rattle.sets.proofs.SetLaws.{named_taken}
use Rattle.card.proofs.ImageLaws.{IsCard, card_parts, card_whole}
use Rattle.slot.specs.declared.Slot.{Slot}
use Rattle.slot.specs.Slots.{removed, powered}
use Rattle.counts.specs.Counts.{put_in}
use Rattle.sound.specs.Sound.{image_is_card, sound}
use Rattle.sound.proofs.SoundLaws.{Sound, sound_parts, sound_whole, on_sound, off_sound, set_sound_lem, defaulted_sound, inserted_sound, removed_sound}
use Rattle.steps.specs.Steps.{order, body}
use Rattle.steps.proofs.Decisions.{order_fits}
use Rattle.orders.specs.Orders.{performed, commanded, image_by, slot_by}
use Rattle.orders.proofs.ImageKept.{card_kept}
use Rattle.orders.proofs.SlotKept.{slot_by_holds, order_sound}
use Rattle.std.specs.Prelude.{None}
use Rattle.faults.specs.declared.Request.{Request}
use Rattle.faults.specs.declared.Request.TheVariants.{SetParameters, PowerOn, PowerOff, SlotStatus, GetParameters, ResetParameters, Transfer, Unsupported}
use Rattle.faults.specs.Faults.{apdu, bad_field, ready, fault_of, is_clear}
use Rattle.frame.specs.Exchange.{Outcome, deed, served, exchange, insertion}
use Rattle.reader.specs.Runs.{Sent}
use Rattle.reader.specs.Proper.{Proper}
use Rattle.reader.specs.Heard.{requested}
use Rattle.reader.proofs.Verdicts.{refused_some}
use Rattle.reader.proofs.Insertions.{Accepted, Inserts, insertion_inserts}
use Rattle.faults.proofs.ClearLaws.{clear_field, clear_ready}
use Rattle.reader.proofs.Came.{Came, down, failed, obeyed, came, heard_proper, heard_clear}

-- ---- the same card
deed_holds : (r : Request) (h : Option Chip) (s : Slot) (image m : List ℕ) → (deed r h s image m).slot.holds ≡ s.holds
unfolding deed commanded performed
deed_holds SetParameters h s image m = refl
deed_holds PowerOn None s image m = refl
deed_holds PowerOn (Some chip) s image m = refl
deed_holds PowerOff h s image m = refl
deed_holds SlotStatus h s image m = refl
deed_holds GetParameters h s image m = refl
deed_holds ResetParameters h s image m = refl
deed_holds Transfer None s image m = refl
deed_holds Transfer (Some chip) s image m = slot_by_holds (facts chip) s image (body (apdu m)) (order (facts chip) s (apdu m))
deed_holds Unsupported h s image m = refl

came_holds : (s : Slot) (image : List ℕ) (m : Sent) {o : Outcome} → Came s image m o → o.slot.holds ≡ s.holds
came_holds s image m (down r e) = refl
came_holds s image m (failed p e) = refl
came_holds s image m (obeyed e) = deed_holds (requested m) s.holds s image m.message

pub exchange_holds : (s : Slot) (image m : List ℕ) (room : ℕ) → (exchange s image m room).slot.holds ≡ s.holds
exchange_holds s image m room = let t : Sent = record { message = m; room = room } in came_holds s image t (came s image t)

-- with a header, what the named slot does is an exchange with room
pub exchange_served : (s : Slot) (image m : List ℕ) (room : ℕ) → 10 ≤ length m → least_room ≤ room → exchange s image m room ≡ served s image m
unfolding exchange
exchange_served s image m room h k = rest _ _ (le-ltb room least_room k) ∙ rest _ _ (le-ltb (length m) 10 h)

pub served_holds : (s : Slot) (image m : List ℕ) → 10 ≤ length m → (served s image m).slot.holds ≡ s.holds
served_holds s image m h =
    sym (ap (λ (o : Outcome). o.slot.holds) (exchange_served s image m least_room h (omega arith))) ∙ exchange_holds s image m least_room

-- what is answered met a sound slot and a card
record Met (s : Slot) (image : List ℕ) (o : Outcome) : Type 0 where
  met : o.number ≡ 0 → Proper s image

served_met : (s : Slot) (image m : List ℕ) → Met s image (served s image m)
unfolding served
served_met s image m =
    either (Met s image) (not (image_is_card s.holds image)) (λ _. record { met = λ e. absurd (omega arith) }) (λ c.
    either (Met s image) (not (sound s image)) (λ _. record { met = λ e. absurd (omega arith) }) (λ d.
    record { met = λ _. record { card = not-false _ c; sound = not-false _ d } }))

pub served_proper : (s : Slot) (image m : List ℕ) → (served s image m).number ≡ 0 → Proper s image
served_proper s image m = (served_met s image m).met

-- ---- proper before, proper after
-- the image of a card that is in is one of its kind
pub proper_card : (chip : Chip) (s : Slot) (image : List ℕ) → s.holds ≡ Some chip → Proper s image → IsCard (facts chip) image
proper_card chip s image e p = card_parts (facts chip) image (sym (ap (λ (h : Option Chip). image_is_card h image) e) ∙ p.card)

command_proper : (chip : Chip) (s : Slot) (image d : List ℕ) → s.holds ≡ Some chip → s.active ≡ true → Proper s image
    → Proper (slot_by (facts chip) s image (body d) (order (facts chip) s d)) (image_by (facts chip) s image (body d) (order (facts chip) s d))
command_proper chip s image d e on p =
    let o = order (facts chip) s d in
    let image' : List ℕ = image_by (facts chip) s image (body d) o in
    let k : IsCard (facts chip) image = proper_card chip s image e p in
    record {
      card = ap (λ (h : Option Chip). image_is_card h image') (slot_by_holds (facts chip) s image (body d) o ∙ e)
          ∙ card_whole (facts chip) image' (card_kept chip s image (body d) o k (order_fits (facts chip) s d));
      sound = sound_whole _ _ (order_sound chip s image d e on k (sound_parts s image p.sound));
    }

-- a change of the record alone, which keeps it sound
changed_proper : (s t : Slot) (image : List ℕ) → t.holds ≡ s.holds → (Sound s image → Sound t image) → Proper s image → Proper t image
changed_proper s t image e f p =
    record { card = ap (λ (h : Option Chip). image_is_card h image) e ∙ p.card; sound = sound_whole _ _ (f (sound_parts s image p.sound)) }

deed_proper : (r : Request) (h : Option Chip) (s : Slot) (image m : List ℕ) → s.holds ≡ h → bad_field r m ≡ None → ready r s ≡ true → Proper s image
    → Proper (deed r h s image m).slot (deed r h s image m).image
unfolding deed commanded performed
deed_proper SetParameters h s image m e k on p = changed_proper s _ image refl (set_sound_lem s image (set_of m) (named_taken m k) on) p
deed_proper PowerOn None s image m e k on p = p
deed_proper PowerOn (Some chip) s image m e k on p = changed_proper s _ image refl (λ r. defaulted_sound (powered true s) image (on_sound s image on r)) p
deed_proper PowerOff h s image m e k on p = changed_proper s _ image refl (off_sound s image) p
deed_proper SlotStatus h s image m e k on p = p
deed_proper GetParameters h s image m e k on p = p
deed_proper ResetParameters h s image m e k on p = changed_proper s _ image refl (defaulted_sound s image) p
deed_proper Transfer None s image m e k on p = p
deed_proper Transfer (Some chip) s image m e k on p = command_proper chip s image (apdu m) e on p
deed_proper Unsupported h s image m e k on p = p

module _ (s : Slot) (image : List ℕ) (m : Sent) where
  done_proper : Proper s image → is_clear (fault_of (requested m) s m.message) ≡ true
      → Proper (deed (requested m) s.holds s image m.message).slot (deed (requested m) s.holds s image m.message).image
  done_proper p e =
      deed_proper (requested m) s.holds s image m.message refl (clear_field (requested m) s m.message e) (clear_ready (requested m) s m.message e) p

  answered_came : {o : Outcome} → Came s image m o → o.number ≡ 0 → Proper o.slot o.image
  answered_came (down r h) e = absurd (omega (arith, refused_some r, e))
  answered_came (failed p h) e = p
  answered_came (obeyed h) e = done_proper (heard_proper s image m h) (heard_clear s image m h)

  proper_came : {o : Outcome} → Came s image m o → Proper s image → Proper o.slot o.image
  proper_came (down r h) p = p
  proper_came (failed q h) p = p
  proper_came (obeyed h) p = done_proper p (heard_clear s image m h)

-- A message that is answered leaves a sound slot and a card, whatever slot and image it met.
pub answered_proper : (s : Slot) (image m : List ℕ) (room : ℕ) → (exchange s image m room).number ≡ 0 → Proper (exchange s image m room).slot (exchange s image m room).image
answered_proper s image m room e = let t : Sent = record { message = m; room = room } in answered_came s image t (came s image t) e

-- Every message, turned down or not, leaves a sound slot sound and a card a card.
pub proper_kept : (s : Slot) (image m : List ℕ) (room : ℕ) → Proper s image → Proper (exchange s image m room).slot (exchange s image m room).image
proper_kept s image m room p = let t : Sent = record { message = m; room = room } in proper_came s image t (came s image t) p

-- ---- a card put in, a card taken out
-- An insertion that is accepted leaves a sound slot and a card.
pub insertion_proper : (s : Slot) (kind : ℕ) (image : List ℕ) → (insertion s kind image).number ≡ 0 → Proper (insertion s kind image).slot (insertion s kind image).image
insertion_proper s kind image e =
    let i : Inserts s kind image (insertion s kind image) = insertion_inserts s kind image in
    let a : Accepted s kind image (insertion s kind image) = i.accepted e in
    subst⁻¹ (λ (t : Slot). Proper t (insertion s kind image).image) a.slot
    (subst⁻¹ (Proper (put_in a.chip image)) i.same (record { card = a.card; sound = inserted_sound image a.chip }))

-- A removal leaves a sound slot, beside every image.
pub removed_proper : (image : List ℕ) → Proper removed image
removed_proper image = record { card = refl; sound = removed_sound image }
