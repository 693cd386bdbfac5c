-- A protected byte keeps its value and stays protected whatever is sent, turned-down and failed messages included; a byte becomes
-- protected by a D1 that carries its value and by nothing else. Over every kind: where a card has no bits, no byte is protected.
use Prim.Native.Nat.{ℕ}
use mathlib.Core.Path.{◌≡◌, refl, sym, ap, ◌∙◌, subst⁻¹}
use mathlib.Core.Bool.{Bool, true, false}
use mathlib.Core.List.{List, [], ◌∷◌}
use lib.ListN.{take}
use Rattle.std.specs.Prelude.{Option, Some}
use Rattle.words.specs.Choice.{◌and◌, ◌or◌}
use Rattle.words.specs.Bytes.{byte}
use Rattle.words.proofs.Choices.{and_fails, and_holds, or_end, or_assoc, or_left}
use Rattle.chips.specs.declared.Chip.{Chip}
use Rattle.chips.specs.declared.Facts.{Facts}
use Rattle.chips.specs.Kinds.{facts}
use Rattle.slot.specs.declared.Slot.{Slot}
use Rattle.card.proofs.ImageLaws.{IsCard}
use Rattle.record.specs.Raw.{raw_of}
use Rattle.steps.specs.Steps.{order, body}
use Rattle.orders.specs.Orders.{performed, commanded, carries_by}
use Rattle.orders.proofs.ProtectedKept.{value_kept, protected_by}
use Rattle.faults.specs.declared.Request.{Request}
use Rattle.faults.specs.declared.Request.TheVariants.{SetParameters, PowerOn, PowerOff, SlotStatus, GetParameters, ResetParameters, Transfer, Unsupported}
use Rattle.faults.specs.Faults.{apdu}
use Rattle.frame.specs.Exchange.{Outcome, deed}
use Rattle.reader.specs.Runs.{Sent, sending, run}
use Rattle.reader.specs.Heard.{requested, heard, transfers}
use Rattle.reader.proofs.Came.{Came, down, failed, obeyed, came, heard_proper}
use Rattle.reader.proofs.Kept.{proper_card, exchange_holds}
use Rattle.sitting.specs.declared.Held.{Held}
use Rattle.promise.specs.Sequences.{Called, Sat}
use Rattle.promise.specs.Protected.{protected_in, protects, some_protects, Guards}
use Rattle.promise.proofs.Sequences.{called_run, sat_run}

-- ---- one message
module _ (chip : Chip) (k : ℕ) (s : Slot) (image : List ℕ) (m : Sent) (holds : s.holds ≡ Some chip) where
  abbrev f : Facts
  f = facts chip

  abbrev d : List ℕ
  d = apdu m.message

  -- the value of a protected byte
  deed_value : (r : Request) → IsCard f image → protected_in f image k ≡ true → byte (deed r (Some chip) s image m.message).image k ≡ byte image k
  unfolding deed commanded performed
  deed_value SetParameters c e = refl
  deed_value PowerOn c e = refl
  deed_value PowerOff c e = refl
  deed_value SlotStatus c e = refl
  deed_value GetParameters c e = refl
  deed_value ResetParameters c e = refl
  deed_value Transfer c e = value_kept chip s image k c e d
  deed_value Unsupported c e = refl

  came_value : {o : Outcome} → Came s image m o → protected_in f image k ≡ true → byte o.image k ≡ byte image k
  came_value (down r h) e = refl
  came_value (failed p h) e = refl
  came_value (obeyed h) e =
      subst⁻¹ (λ (x : Option Chip). byte (deed (requested m) x s image m.message).image k ≡ byte image k) holds
      (deed_value (requested m) (proper_card chip s image holds (heard_proper s image m h)) e)

  pub message_value : protected_in f image k ≡ true → byte (sending s image m).image k ≡ byte image k
  message_value = came_value (came s image m)

  -- whether it is protected
  deed_protects : (r : Request) → IsCard f image
      → protected_in f (deed r (Some chip) s image m.message).image k ≡ (protected_in f image k or transfers r and carries_by image (body d) k (order f s d))
  unfolding deed commanded performed ◌and◌
  deed_protects SetParameters c = sym (or_end _)
  deed_protects PowerOn c = sym (or_end _)
  deed_protects PowerOff c = sym (or_end _)
  deed_protects SlotStatus c = sym (or_end _)
  deed_protects GetParameters c = sym (or_end _)
  deed_protects ResetParameters c = sym (or_end _)
  deed_protects Transfer c = protected_by chip s image k c d
  deed_protects Unsupported c = sym (or_end _)

  -- what is not heard protects nothing
  unheard : heard s image m ≡ false → protected_in f image k ≡ (protected_in f image k or protects f s image m k)
  unfolding protects
  unheard h = sym (ap (λ (b : Bool). protected_in f image k or b) (sym (and_fails _ h)) ∙ or_end _)

  came_protects : {o : Outcome} → Came s image m o → protected_in f o.image k ≡ (protected_in f image k or protects f s image m k)
  unfolding protects
  came_protects (down r h) = unheard h
  came_protects (failed p h) = unheard h
  came_protects (obeyed h) =
      let rest = transfers (requested m) and carries_by image (body d) k (order f s d) in
      subst⁻¹ (λ (x : Option Chip). protected_in f (deed (requested m) x s image m.message).image k ≡ (protected_in f image k or rest)) holds
      (deed_protects (requested m) (proper_card chip s image holds (heard_proper s image m h)))
      ∙ ap (λ (b : Bool). protected_in f image k or b) (and_holds h refl)

  pub message_protects : protected_in f (sending s image m).image k ≡ (protected_in f image k or protects f s image m k)
  message_protects = came_protects (came s image m)

-- ---- a run: from any slot with the card in it, any image and any messages
module _ (chip : Chip) (k : ℕ) where
  -- "a byte becomes protected by a D1 that carries its value and by nothing else"
  pub protected_after : (s : Slot) (image : List ℕ) (ms : List Sent) → s.holds ≡ Some chip
      → protected_in (facts chip) (run s image ms).image k ≡ (protected_in (facts chip) image k or some_protects (facts chip) s image ms k)
  unfolding run some_protects
  protected_after s image [] h = sym (or_end _)
  protected_after s image (m ∷ ms) h =
      let o : Outcome = sending s image m in
      protected_after o.slot o.image ms (exchange_holds s image m.message m.room ∙ h)
      ∙ ap (λ (b : Bool). b or some_protects (facts chip) o.slot o.image ms k) (message_protects chip k s image m h)
      ∙ or_assoc _ _ _

  -- "stays protected"
  pub protected_stays : (s : Slot) (image : List ℕ) (ms : List Sent) → s.holds ≡ Some chip → protected_in (facts chip) image k ≡ true
      → protected_in (facts chip) (run s image ms).image k ≡ true
  protected_stays s image ms h e = protected_after s image ms h ∙ or_left _ e

  -- "keeps its value"
  pub value_stays : (s : Slot) (image : List ℕ) (ms : List Sent) → s.holds ≡ Some chip → protected_in (facts chip) image k ≡ true
      → byte (run s image ms).image k ≡ byte image k
  unfolding run
  value_stays s image [] h e = refl
  value_stays s image (m ∷ ms) h e =
      let o : Outcome = sending s image m in
      value_stays o.slot o.image ms (exchange_holds s image m.message m.room ∙ h) (message_protects chip k s image m h ∙ or_left _ e)
      ∙ message_value chip k s image m h e

-- ---- and so by calls of `card_reader_message`, and by `sitting::perform`
module _ (chip : Chip) (k : ℕ) (s : Slot) (image : List ℕ) (h : s.holds ≡ Some chip) where
  pub run_guards : (ms : List Sent) → Guards (facts chip) s image ms k (run s image ms).image
  run_guards ms = record { value = value_stays chip k s image ms h; protected = protected_after chip k s image ms h }

  pub calls_guard : {ms : List Sent} {r' image' : List ℕ} → Called (raw_of s) image ms r' image' → Guards (facts chip) s image ms k image'
  calls_guard {ms} calls = subst⁻¹ (Guards (facts chip) s image ms k) (called_run calls s image refl refl).1 (run_guards ms)

  pub sittings_guard : {before : Held} {had : List ℕ} → before.slot ≡ s → take before.size had ≡ image → {ms : List Sent} {held : Held} {left : List ℕ}
      → Sat before had ms held left → Guards (facts chip) s image ms k (take held.size left)
  sittings_guard p q {ms} sits = subst⁻¹ (Guards (facts chip) s image ms k) (sat_run sits s image p q).1 (run_guards ms)
