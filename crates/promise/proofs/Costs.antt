-- What a message costs: equal codes sent twice cost two tries, and what no code reached the card by costs none.
use Rattle.std.specs.Prelude.{Err}
use Prim.Native.Nat.{ℕ, ◌-◌}
use mathlib.Core.Path.{◌≡◌, refl, sym, ap, ◌∙◌, subst⁻¹}
use mathlib.Core.Bool.{Bool, true, false}
use mathlib.Core.List.{List, [], ◌∷◌}
use mathlib.Core.Logic.{◌≢◌}
use native.Mathlib.Omega.{arith}
use Rattle.std.specs.Prelude.{Some}
use Rattle.words.specs.Bytes.{byte, same}
use Rattle.words.proofs.Choices.{either, rest, and_true, and_fails, and_holds, both, no_test}
use Rattle.codes.specs.Counters.{tries}
use Rattle.codes.specs.Codes.{code_in}
use Rattle.codes.proofs.CodeLaws.{code_presenting}
use Rattle.chips.specs.declared.Chip.{Chip}
use Rattle.chips.specs.declared.Facts.{Facts}
use Rattle.chips.specs.Kinds.{facts}
use Rattle.chips.proofs.KindLaws.{coded}
use Rattle.slot.specs.declared.Slot.{Slot}
use Rattle.steps.specs.declared.Status.{Status}
use Rattle.steps.specs.declared.Order.{Order}
use Rattle.steps.specs.Steps.{order, body, presents}
use Rattle.steps.proofs.PresentAgain.{present_again}
use Rattle.faults.specs.declared.Request.{Request}
use Rattle.faults.specs.declared.Request.TheVariants.{Transfer}
use Rattle.faults.specs.Faults.{apdu, ready, fault_of, is_clear}
use Rattle.orders.specs.Orders.{performed, image_by, slot_by}
use Rattle.frame.specs.Exchange.{Outcome}
use Rattle.reader.specs.Runs.{Sent, sending, run}
use Rattle.reader.specs.Proper.{Proper}
use Rattle.reader.specs.Heard.{requested, faulted, heard, transfers, reached}
use Rattle.reader.proofs.Came.{obeyed, Came, down, failed, came, heard_proper, heard_clear}
use Rattle.reader.proofs.Kept.{exchange_holds, proper_kept}
use Rattle.promise.specs.Tries.{none, wrong, right_now, event_of, after}
use Rattle.counts.specs.Counts.{tries_in}
use Rattle.promise.proofs.Reached.{transfers_is, reached_does, unreached_keeps, unreached_none, none_unreached, reached_event, wrong_reached}
use Rattle.promise.proofs.Tries.{message_tries}

-- ---- equal codes
-- a fault hangs on the slot by one test alone
fault_again : (r : Request) (s s' : Slot) (m : List ℕ) → ready r s' ≡ ready r s → fault_of r s' m ≡ fault_of r s m
unfolding fault_of
fault_again r s s' m e = cc

module _ (chip : Chip) (c : (facts chip).coded ≡ true) (s : Slot) (image : List ℕ) (m : Sent) (holds : s.holds ≡ Some chip) where
  abbrev f : Facts
  f = facts chip

  abbrev then : Outcome
  then = sending s image m

  -- a presented code leaves the slot active, the type selected, and the code
  reached_slot : reached f s image m ≡ true → (then.slot.active ≡ s.active) × (then.slot.selected ≡ s.selected)
  unfolding performed slot_by
  reached_slot e =
      let p = ap (λ (o : Outcome). o.slot) (reached_does chip s image m holds e) in (
        ap (λ (t : Slot). t.active) p ∙ either (λ (t : Slot). t.active ≡ s.active) _ (λ _. refl) (λ _. refl),
        ap (λ (t : Slot). t.selected) p ∙ either (λ (t : Slot). t.selected ≡ s.selected) _ (λ _. refl) (λ _. refl),
      )

  reached_code : reached f s image m ≡ true → right_now f then.image m ≡ right_now f image m
  unfolding performed image_by right_now
  reached_code e =
      let b : List ℕ = body (apdu m.message) in
      ap (λ (o : Outcome). same b (code_in f.code f.digits o.image)) (reached_does chip s image m holds e)
      ∙ ap (same b) (code_presenting f.counter f.full f.code f.digits image b (coded chip c).behind)

  -- so the same message is heard again, and its code reaches the card again
  heard_again : reached f s image m ≡ true → heard then.slot then.image m ≡ true
  unfolding reached heard
  heard_again e =
      let t = and_true _ _ e in
      let h : heard s image m ≡ true = t.0 in
      let tr : requested m ≡ Transfer = transfers_is _ (and_true _ _ t.1).0 in
      let p : Proper then.slot then.image = proper_kept s image m.message m.room (heard_proper s image m h) in
      let on : ready (requested m) then.slot ≡ ready (requested m) s = subst⁻¹ (λ (r : Request). ready r then.slot ≡ ready r s) tr (reached_slot e).0 in
      both (and_true _ _ h).0 (both (and_true _ _ (and_true _ _ h).1).0 (both p.card (both p.sound
      (ap is_clear (fault_again (requested m) s then.slot m.message on) ∙ heard_clear s image m h))))

  reached_again : reached f s image m ≡ true → reached f then.slot then.image m ≡ true
  unfolding reached
  reached_again e =
      let t = and_true _ _ e in
      let u = and_true _ _ t.1 in
      both (heard_again e) (both u.0
      (ap presents (present_again f s then.slot (apdu m.message) (reached_slot e).1 u.1)))

  -- a wrong code that reached the card reaches it again when the same message is sent again, and is wrong again
  pub wrong_again : event_of f s image m ≡ wrong → event_of f then.slot then.image m ≡ wrong
  wrong_again e =
      let t = wrong_reached f s image m e in
      reached_event f then.slot then.image m (reached_again t.0) ∙ rest _ _ (reached_code t.0 ∙ t.1)

  -- bSeq is only echoed: the same message sent twice costs two tries, stopping at zero
  pub equal_codes_cost_two : event_of f s image m ≡ wrong → tries_in f (run s image (m ∷ m ∷ [])).image ≡ tries_in f image - 2
  unfolding run
  equal_codes_cost_two e =
      let one : tries_in f then.image ≡ tries_in f image - 1 =
      message_tries chip c s image m holds ∙ ap (after (tries f.full) (tries_in f image)) e in
      let two : tries_in f (sending then.slot then.image m).image ≡ tries_in f then.image - 1 =
      message_tries chip c then.slot then.image m (exchange_holds s image m.message m.room ∙ holds)
      ∙ ap (after (tries f.full) (tries_in f then.image)) (wrong_again e) in
      omega (arith, one, two)

  -- ---- no code
  -- what no code reached the card by leaves its counter
  pub unheard_costs_none : event_of f s image m ≡ none → byte (sending s image m).image f.counter ≡ byte image f.counter
  unheard_costs_none e = unreached_keeps chip s image m holds c (none_unreached f s image m e)

-- and no code reaches a card by a message that is turned down, that fails, that is no transfer, or whose command is refused or another one
module _ (f : Facts) (s : Slot) (image : List ℕ) (m : Sent) where
  unheard_none : heard s image m ≡ false → event_of f s image m ≡ none
  unfolding reached
  unheard_none h = unreached_none f s image m (sym (and_fails _ h))

  pub turned_down_none : (sending s image m).number ≢ 0 → event_of f s image m ≡ none
  turned_down_none ne = go (came s image m) ne
    where
      go : {o : Outcome} → Came s image m o → o.number ≢ 0 → event_of f s image m ≡ none
      go (down r h) ne = unheard_none h
      go (failed p h) ne = unheard_none h
      go (obeyed h) ne = absurd (ne refl)

  pub failed_none : is_clear (faulted s m) ≡ false → event_of f s image m ≡ none
  failed_none e = go (heard s image m) refl
    where
      go : (b : Bool) → heard s image m ≡ b → event_of f s image m ≡ none
      go false h = unheard_none h
      go true h = no_test (heard_clear s image m h) e

  pub untransferred_none : transfers (requested m) ≡ false → event_of f s image m ≡ none
  unfolding reached
  untransferred_none e = go (heard s image m) refl
    where
      go : (b : Bool) → heard s image m ≡ b → event_of f s image m ≡ none
      go false h = unheard_none h
      go true h = unreached_none f s image m (sym (and_holds h (and_fails _ e)))

  pub other_none : presents (order f s (apdu m.message)) ≡ false → event_of f s image m ≡ none
  unfolding reached
  other_none e = go (heard s image m) refl (transfers (requested m)) refl
    where
      go : (a : Bool) → heard s image m ≡ a → (b : Bool) → transfers (requested m) ≡ b → event_of f s image m ≡ none
      go false h b t = unheard_none h
      go true h false t = untransferred_none t
      go true h true t = unreached_none f s image m (sym (and_holds h (and_holds t (sym e))))

  pub refused_none : (status : Status) → order f s (apdu m.message) ≡ Err status → event_of f s image m ≡ none
  refused_none status e = other_none (ap presents e)
