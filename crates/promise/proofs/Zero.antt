-- From zero no message changes a byte of a code card: a right code meets no try, and the card cannot be open.
use Prim.Native.Nat.{ℕ}
use mathlib.Core.Path.{◌≡◌, refl, sym, ap, ◌∙◌, subst⁻¹}
use mathlib.Core.Bool.{Bool, true, false}
use mathlib.Core.List.{List, [], ◌∷◌, ◌++◌}
use native.Mathlib.Omega.{arith}
use borrow.Author.Tests.{eqb-true}
use Rattle.std.specs.Prelude.{Option, Some}
use Rattle.words.specs.Bytes.{byte}
use Rattle.words.proofs.Choices.{and_true}
use Rattle.codes.proofs.CounterLaws.{tries_zero}
use Rattle.codes.proofs.CodeLaws.{presenting_none}
use Rattle.chips.specs.declared.Chip.{Chip}
use Rattle.chips.specs.declared.Facts.{Facts}
use Rattle.chips.specs.Kinds.{facts}
use Rattle.chips.proofs.KindLaws.{coded, laid}
use Rattle.slot.specs.declared.Slot.{Slot}
use Rattle.card.proofs.ImageLaws.{IsCard}
use Rattle.steps.specs.Steps.{order, body, presents}
use Rattle.steps.proofs.PresentAgain.{presents_is}
use Rattle.sound.specs.Sound.{full_code}
use Rattle.sound.proofs.SoundLaws.{Sound, sound_parts}
use Rattle.faults.specs.declared.Request.{Request}
use Rattle.faults.specs.declared.Request.TheVariants.{SetParameters, PowerOn, PowerOff, SlotStatus, GetParameters, ResetParameters, Transfer, Unsupported}
use Rattle.faults.specs.Faults.{apdu}
use Rattle.orders.specs.Orders.{performed, commanded, image_by}
use Rattle.orders.proofs.ImageKept.{shut_kept}
use Rattle.frame.specs.Exchange.{Outcome, deed, insertion}
use Rattle.reader.specs.Runs.{Sent, sending, run}
use Rattle.reader.specs.Proper.{Proper}
use Rattle.reader.specs.Heard.{requested}
use Rattle.reader.proofs.Came.{obeyed, Came, down, failed, came, heard_proper}
use Rattle.reader.proofs.Kept.{proper_card, exchange_holds}
use Rattle.promise.specs.Tries.{PutIn, run_from}
use Rattle.counts.specs.Counts.{tries_in}
use Rattle.promise.proofs.RunLaws.{run_holds, run_append}
use Rattle.promise.proofs.Inserted.{put_slot}

-- ---- one message
module _ (chip : Chip) (c : (facts chip).coded ≡ true) (s : Slot) (image : List ℕ) (holds : s.holds ≡ Some chip) (zero : tries_in (facts chip) image ≡ 0) where
  abbrev f : Facts
  f = facts chip

  -- no tries is a counter of 0
  counter_zero : IsCard f image → byte image f.counter ≡ 0
  counter_zero k = tries_zero (byte image f.counter) (omega (arith, k.within, (laid chip).small)) zero

  -- a card with no tries is closed
  shut : IsCard f image → Sound s image → s.«open» ≡ false
  shut k r = go s.«open» refl
    where
      go : (b : Bool) → s.«open» ≡ b → b ≡ false
      go false e = refl
      go true e =
          let full : full_code (Some chip) image ≡ true = sym (ap (λ (h : Option Chip). full_code h image) holds) ∙ (r.sure e).0 in
          let same : byte image f.counter ≡ f.full = eqb-true _ _ (and_true _ _ full).1 in
          absurd (omega (arith, same, counter_zero k, (coded chip c).opens))

  order_zero : (d : List ℕ) → Proper s image → image_by f s image (body d) (order f s d) ≡ image
  unfolding image_by
  order_zero d p = go (presents (order f s d)) refl
    where
      k : IsCard f image
      k = proper_card chip s image holds p

      go : (b : Bool) → presents (order f s d) ≡ b → image_by f s image (body d) (order f s d) ≡ image
      go true e =
          ap (image_by f s image (body d)) (presents_is (order f s d) e)
          ∙ presenting_none f.counter f.full f.code f.digits image (body d) (counter_zero k)
      go false e = shut_kept f s image d c (shut k (sound_parts s image p.sound)) e

  deed_zero : (r : Request) (m : List ℕ) → Proper s image → (deed r (Some chip) s image m).image ≡ image
  unfolding deed commanded performed
  deed_zero SetParameters m p = refl
  deed_zero PowerOn m p = refl
  deed_zero PowerOff m p = refl
  deed_zero SlotStatus m p = refl
  deed_zero GetParameters m p = refl
  deed_zero ResetParameters m p = refl
  deed_zero Transfer m p = order_zero (apdu m) p
  deed_zero Unsupported m p = refl

  came_zero : (m : Sent) {o : Outcome} → Came s image m o → o.image ≡ image
  came_zero m (down r h) = refl
  came_zero m (failed p h) = refl
  came_zero m (obeyed h) =
      subst⁻¹ (λ (x : Option Chip). (deed (requested m) x s image m.message).image ≡ image) holds (deed_zero (requested m) m.message (heard_proper s image m h))

  pub message_zero : (m : Sent) → (sending s image m).image ≡ image
  message_zero m = came_zero m (came s image m)

-- ---- a run
module _ (chip : Chip) (c : (facts chip).coded ≡ true) where
  -- "From zero no message changes a byte of that card."
  pub zero_stays : (s : Slot) (image : List ℕ) (ms : List Sent) → s.holds ≡ Some chip → tries_in (facts chip) image ≡ 0 → (run s image ms).image ≡ image
  unfolding run
  zero_stays s image [] e z = refl
  zero_stays s image (m ∷ ms) e z =
      let o : Outcome = sending s image m in
      let k : o.image ≡ image = message_zero chip c s image e z m in
      zero_stays o.slot o.image ms (exchange_holds s image m.message m.room ∙ e) (ap (tries_in (facts chip)) k ∙ z) ∙ k

-- from the insertion on: once a run has left no tries, whatever comes after it leaves every byte
module _ (chip : Chip) (s : Slot) (kind : ℕ) (image : List ℕ) (p : PutIn chip s kind image) where
  pub zero_kept : (ms ns : List Sent) → tries_in (facts chip) (run_from s kind image ms).image ≡ 0
      → (run (run_from s kind image ms).slot (run_from s kind image ms).image ns).image ≡ (run_from s kind image ms).image
  zero_kept ms ns z =
      let r = run_from s kind image ms in
      let o = insertion s kind image in
      zero_stays chip p.coded r.slot r.image ns (run_holds o.slot o.image ms ∙ ap (λ (t : Slot). t.holds) (put_slot chip s kind image p)) z

  pub zero_remains : (ms ns : List Sent) → tries_in (facts chip) (run_from s kind image ms).image ≡ 0
      → (run_from s kind image (ms ++ ns)).image ≡ (run_from s kind image ms).image
  zero_remains ms ns z = run_append (insertion s kind image).slot (insertion s kind image).image ms ns ∙ zero_kept ms ns z
