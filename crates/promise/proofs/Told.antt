-- The counter that the reader tells is the image's own: command 20 answers with the counter as it stands afterwards, B1 with the counter as it stands.
use Rattle.std.specs.Prelude.{Result, Ok}
use Prim.Native.Nat.{ℕ, ◌-◌}
use mathlib.Core.Path.{◌≡◌, refl, ap, ◌∙◌, subst⁻¹}
use mathlib.Core.Bool.{true}
use mathlib.Core.List.{List, [], ◌∷◌, ◌++◌}
use lib.ListN.{replicate}
use Rattle.std.specs.Prelude.{Some}
use Rattle.words.specs.Bytes.{byte}
use Rattle.chips.specs.declared.Chip.{Chip}
use Rattle.chips.specs.Kinds.{facts}
use Rattle.reads.specs.Reads.{counter_read}
use Rattle.slot.specs.declared.Slot.{Slot}
use Rattle.steps.specs.declared.Status.{Status}
use Rattle.steps.specs.declared.Order.{Order}
use Rattle.steps.specs.Steps.{order, body}
use Rattle.std.specs.Prelude.{None}
use Rattle.faults.specs.declared.Request.TheVariants.{Transfer}
use Rattle.faults.specs.Faults.{apdu}
use Rattle.orders.specs.Orders.{performed, said_by, image_by, slot_by}
use Rattle.frame.specs.Answers.{answer}
use Rattle.frame.specs.Exchange.{Outcome, answered}
use Rattle.reader.specs.Runs.{Sent, sending}
use Rattle.reader.specs.Heard.{requested, heard, reached}
use Rattle.promise.proofs.Reached.{transfer_does, reached_does}

module _ (chip : Chip) (s : Slot) (image : List ℕ) (m : Sent) (holds : s.holds ≡ Some chip) where
  -- a code that reached the card is answered with 90 and the counter in the image afterwards
  pub code_told : reached (facts chip) s image m ≡ true
      → (sending s image m).answer ≡ answer Transfer m.message None (sending s image m).slot (0x90 ∷ byte (sending s image m).image (facts chip).counter ∷ [])
  unfolding performed said_by image_by
  code_told e =
      subst⁻¹ (λ (o : Outcome). o.answer ≡ answer Transfer m.message None o.slot (0x90 ∷ byte o.image (facts chip).counter ∷ []))
      (reached_does chip s image m holds e) refl

  -- B1 reads the counter that stands in the image, and leaves it
  pub counter_told : (n : ℕ) → heard s image m ≡ true → requested m ≡ Transfer → order (facts chip) s (apdu m.message) ≡ Ok (Order.Counter n)
      → ((sending s image m).answer ≡ answer Transfer m.message None (sending s image m).slot
      (byte image (facts chip).counter ∷ replicate (n - 1) 0 ++ (0x90 ∷ 0x00 ∷ [])))
      × ((sending s image m).image ≡ image)
  unfolding performed said_by image_by slot_by counter_read
  counter_told n h t e =
      let p : sending s image m ≡ answered Transfer m.message None (performed (facts chip) s image (body (apdu m.message)) (Ok (Order.Counter n))) =
      transfer_does chip s image m holds h t
      ∙ ap (λ (o : Result Order Status). answered Transfer m.message None (performed (facts chip) s image (body (apdu m.message)) o)) e in (
        subst⁻¹ (λ (o : Outcome). o.answer ≡ answer Transfer m.message None o.slot
            (byte image (facts chip).counter ∷ replicate (n - 1) 0 ++ (0x90 ∷ 0x00 ∷ []))) p refl,
        ap (λ (o : Outcome). o.image) p,
      )
