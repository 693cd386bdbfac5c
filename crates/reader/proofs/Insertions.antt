-- An insertion taken apart: what one that is accepted says, and what every one leaves.
use Prim.Native.Nat.{ℕ, ◌≤◌}
use mathlib.Core.Path.{◌≡◌, refl, ap, ◌∙◌}
use mathlib.Core.Bool.{true, false, true≢false}
use mathlib.Core.List.{List, []}
use native.Mathlib.Omega.{arith}
use Rattle.std.specs.Prelude.{Option, Some, None}
use Rattle.words.proofs.Choices.{first, rest, either}
use Rattle.chips.specs.declared.Chip.{Chip}
use Rattle.chips.specs.Kinds.{facts, chip_of}
use Rattle.card.specs.Images.{is_card}
use Rattle.slot.specs.declared.Slot.{Slot}
use Rattle.slot.specs.Slots.{occupied}
use Rattle.counts.specs.Counts.{put_in}
use Rattle.frame.specs.Exchange.{Outcome, inserted_as, insertion}

-- an insertion that is accepted: the slot was empty, the kind is a chip's and the image one of its cards, and then the card is in
pub record Accepted (s : Slot) (kind : ℕ) (image : List ℕ) (o : Outcome) : Type 0 where
  pub chip : Chip
  pub known : chip_of kind ≡ Some chip
  pub empty : s.holds ≡ None
  pub card : is_card (facts chip) image ≡ true
  pub slot : o.slot ≡ put_in chip image

-- every insertion answers nothing and leaves the image, and its number is one of the table's
pub record Inserts (s : Slot) (kind : ℕ) (image : List ℕ) (o : Outcome) : Type 0 where
  pub quiet : o.answer ≡ []
  pub same : o.image ≡ image
  pub small : o.number ≤ 5
  pub accepted : o.number ≡ 0 → Accepted s kind image o

unoccupied : (h : Option Chip) → occupied h ≡ false → h ≡ None
unoccupied None e = refl
unoccupied (Some chip) e = absurd (true≢false e)

module _ (s : Slot) (kind : ℕ) (image : List ℕ) where
  known_inserts : (k : Option Chip) → chip_of kind ≡ k → s.holds ≡ None → Inserts s kind image (inserted_as k s image)
  unfolding inserted_as
  known_inserts (Some chip) k h =
      either (Inserts s kind image) (is_card (facts chip) image)
      (λ e. record { quiet = refl; same = refl; small = omega arith; accepted = λ _. record { chip = chip; known = k; empty = h; card = e; slot = refl } })
      (λ _. record { quiet = refl; same = refl; small = omega arith; accepted = λ e. absurd (omega arith) })
  known_inserts None k h = record { quiet = refl; same = refl; small = omega arith; accepted = λ e. absurd (omega arith) }

  pub insertion_inserts : Inserts s kind image (insertion s kind image)
  unfolding insertion
  insertion_inserts =
      either (Inserts s kind image) (occupied s.holds)
      (λ _. record { quiet = refl; same = refl; small = omega arith; accepted = λ e. absurd (omega arith) })
      (λ e. known_inserts (chip_of kind) refl (unoccupied s.holds e))

  -- and every card can be put into an empty slot, whatever else the record says
  pub accepts_card : (chip : Chip) → chip_of kind ≡ Some chip → s.holds ≡ None → is_card (facts chip) image ≡ true → (insertion s kind image).number ≡ 0
  unfolding insertion inserted_as
  accepts_card chip known empty card =
      ap (λ (o : Outcome). o.number) (rest _ _ (ap occupied empty) ∙ ap (λ (k : Option Chip). inserted_as k s image) known ∙ first _ _ card)
