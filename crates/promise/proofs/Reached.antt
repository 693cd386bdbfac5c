-- What a message does to a code card: one that no code reached it by leaves the counter, and one that a code did is exactly a presented code.
use Rattle.std.specs.Prelude.{Result, Ok}
use Prim.Native.Nat.{ℕ}
use mathlib.Core.Path.{◌≡◌, refl, ap, ◌∙◌, subst⁻¹}
use mathlib.Core.Bool.{Bool, true, false, false≢true}
use mathlib.Core.List.{List}
use Rattle.std.specs.Prelude.{Option, Some}
use Rattle.words.specs.Choice.{◌⇒◌⁏◌}
use Rattle.words.specs.Bytes.{byte}
use Rattle.words.proofs.Choices.{first, rest, and_true, and_holds, no_test}
use Rattle.chips.specs.declared.Chip.{Chip}
use Rattle.chips.specs.declared.Facts.{Facts}
use Rattle.chips.specs.Kinds.{facts}
use Rattle.chips.proofs.KindLaws.{coded}
use Rattle.slot.specs.declared.Slot.{Slot}
use Rattle.steps.specs.declared.Status.{Status}
use Rattle.steps.specs.declared.Order.{Order}
use Rattle.steps.specs.Steps.{order, body, presents}
use Rattle.steps.proofs.PresentAgain.{presents_is}
use Rattle.steps.proofs.Decisions.{order_fits}
use Rattle.std.specs.Prelude.{Option, None}
use Rattle.faults.specs.declared.Fault.{Fault}
use Rattle.faults.specs.declared.Request.{Request}
use Rattle.faults.specs.declared.Request.TheVariants.{SetParameters, PowerOn, PowerOff, SlotStatus, GetParameters, ResetParameters, Transfer, Unsupported}
use Rattle.faults.specs.Faults.{apdu}
use Rattle.orders.specs.Orders.{performed, commanded}
use Rattle.orders.proofs.ImageKept.{counter_kept}
use Rattle.frame.specs.Exchange.{Outcome, deed, answered}
use Rattle.reader.specs.Runs.{Sent, sending}
use Rattle.reader.specs.Heard.{requested, faulted, heard, transfers, reached}
use Rattle.faults.proofs.ClearLaws.{clear_is}
use Rattle.reader.proofs.Came.{obeyed, Came, down, failed, came, heard_clear}
use Rattle.promise.specs.Tries.{none, wrong, right, right_now, event_of}

-- ---- the tests of `reached`, read back
pub transfers_is : (r : Request) → transfers r ≡ true → r ≡ Transfer
transfers_is SetParameters e = absurd (false≢true e)
transfers_is PowerOn e = absurd (false≢true e)
transfers_is PowerOff e = absurd (false≢true e)
transfers_is SlotStatus e = absurd (false≢true e)
transfers_is GetParameters e = absurd (false≢true e)
transfers_is ResetParameters e = absurd (false≢true e)
transfers_is Transfer e = refl
transfers_is Unsupported e = absurd (false≢true e)

-- a message that is heard does its deed
pub heard_does : (s : Slot) (image : List ℕ) (m : Sent) → heard s image m ≡ true
    → sending s image m ≡ answered (requested m) m.message (faulted s m) (deed (requested m) s.holds s image m.message)
heard_does s image m e = go (came s image m)
  where
    go : {o : Outcome} → Came s image m o → o ≡ answered (requested m) m.message (faulted s m) (deed (requested m) s.holds s image m.message)
    go (down r h) = no_test e h
    go (failed p h) = no_test e h
    go (obeyed h) = refl

module _ (chip : Chip) (s : Slot) (image : List ℕ) (m : Sent) (holds : s.holds ≡ Some chip) where
  abbrev apart : List ℕ
  apart = apdu m.message

  -- a transfer that is heard does what its order says
  pub transfer_does : heard s image m ≡ true → requested m ≡ Transfer
      → sending s image m ≡ answered Transfer m.message None (performed (facts chip) s image (body apart) (order (facts chip) s apart))
  unfolding deed commanded
  transfer_does h t =
      let c : faulted s m ≡ None = clear_is (faulted s m) (heard_clear s image m h) in
      heard_does s image m h
      ∙ ap (λ (f : Option Fault). answered (requested m) m.message f (deed (requested m) s.holds s image m.message)) c
      ∙ ap (λ (r : Request). answered r m.message None (deed r s.holds s image m.message)) t
      ∙ ap (λ (x : Option Chip). answered Transfer m.message None (deed Transfer x s image m.message)) holds

  -- a code that reaches the card is presented
  pub reached_does : reached (facts chip) s image m ≡ true
      → sending s image m ≡ answered Transfer m.message None (performed (facts chip) s image (body apart) (Ok Order.Present))
  unfolding reached
  reached_does e =
      let t = and_true _ _ e in
      let u = and_true _ _ t.1 in
      transfer_does t.0 (transfers_is _ u.0)
      ∙ ap (λ (o : Result Order Status). answered Transfer m.message None (performed (facts chip) s image (body apart) o)) (presents_is _ u.1)

  -- what no code reached the card by leaves the counter
  deed_keeps : (r : Request) → (facts chip).coded ≡ true → (transfers r ≡ true → presents (order (facts chip) s apart) ≡ false)
      → byte (deed r (Some chip) s image m.message).image (facts chip).counter ≡ byte image (facts chip).counter
  unfolding deed commanded performed
  deed_keeps SetParameters c ne = refl
  deed_keeps PowerOn c ne = refl
  deed_keeps PowerOff c ne = refl
  deed_keeps SlotStatus c ne = refl
  deed_keeps GetParameters c ne = refl
  deed_keeps ResetParameters c ne = refl
  deed_keeps Transfer c ne =
      counter_kept (facts chip) (coded chip c) s image (body apart) (order (facts chip) s apart) (order_fits (facts chip) s apart) (ne refl)
  deed_keeps Unsupported c ne = refl

  pub unreached_keeps : (facts chip).coded ≡ true → reached (facts chip) s image m ≡ false
      → byte (sending s image m).image (facts chip).counter ≡ byte image (facts chip).counter
  unfolding reached
  unreached_keeps c e = go (came s image m)
    where
      go : {o : Outcome} → Came s image m o → byte o.image (facts chip).counter ≡ byte image (facts chip).counter
      go (down r h) = refl
      go (failed p h) = refl
      go (obeyed h) =
          subst⁻¹ (λ (x : Option Chip). byte (deed (requested m) x s image m.message).image (facts chip).counter ≡ byte image (facts chip).counter) holds
          (deed_keeps (requested m) c (λ t. and_holds h (and_holds t refl) ∙ e))

-- ---- what a message was to the card
event_none : (a b : Bool) → (a ⇒ (b ⇒ right ⁏ wrong) ⁏ none) ≡ none → a ≡ false
unfolding ◌⇒◌⁏◌
event_none true true e = cc
event_none true false e = cc
event_none false b e = refl

event_wrong : (a b : Bool) → (a ⇒ (b ⇒ right ⁏ wrong) ⁏ none) ≡ wrong → (a ≡ true) × (b ≡ false)
unfolding ◌⇒◌⁏◌
event_wrong true true e = (refl, cc)
event_wrong true false e = (refl, refl)
event_wrong false b e = (cc, cc)

module _ (f : Facts) (s : Slot) (image : List ℕ) (m : Sent) where
  pub unreached_none : reached f s image m ≡ false → event_of f s image m ≡ none
  unfolding event_of
  unreached_none e = rest _ _ e

  pub none_unreached : event_of f s image m ≡ none → reached f s image m ≡ false
  unfolding event_of
  none_unreached e = event_none _ _ e

  pub reached_event : reached f s image m ≡ true → event_of f s image m ≡ (right_now f image m ⇒ right ⁏ wrong)
  unfolding event_of
  reached_event e = first _ _ e

  pub wrong_reached : event_of f s image m ≡ wrong → (reached f s image m ≡ true) × (right_now f image m ≡ false)
  unfolding event_of
  wrong_reached e = event_wrong _ _ e
