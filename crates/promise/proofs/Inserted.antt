-- A code card just inserted: it is in, inactive and closed, and its image is as it came.
use Prim.Native.Nat.{ℕ}
use mathlib.Core.Path.{◌≡◌, ap, ◌∙◌}
use mathlib.Core.Bool.{true}
use mathlib.Core.List.{List}
use Rattle.std.specs.Prelude.{Some, None}
use Rattle.chips.specs.declared.Chip.{Chip}
use Rattle.chips.specs.Kinds.{facts, chip_of}
use Rattle.slot.specs.declared.Slot.{Slot}
use Rattle.counts.specs.Counts.{put_in}
use Rattle.card.specs.Images.{is_card}
use Rattle.frame.specs.Exchange.{insertion}
use Rattle.reader.proofs.Insertions.{Accepted, insertion_inserts, accepts_card}
use Rattle.promise.specs.Tries.{PutIn}

module _ (chip : Chip) (s : Slot) (kind : ℕ) (image : List ℕ) where
  -- the chip that was found is the one
  same_chip : (c : Chip) → chip_of kind ≡ Some chip → chip_of kind ≡ Some c → c ≡ chip
  same_chip c e h = cc

  -- a card of any kind, with or without a code
  pub put_in_slot : chip_of kind ≡ Some chip → (insertion s kind image).number ≡ 0 → (insertion s kind image).slot ≡ put_in chip image
  put_in_slot known e =
      let a : Accepted s kind image (insertion s kind image) = (insertion_inserts s kind image).accepted e in
      a.slot ∙ ap (λ (c : Chip). put_in c image) (same_chip a.chip known a.known)

  pub put_slot : PutIn chip s kind image → (insertion s kind image).slot ≡ put_in chip image
  put_slot p = put_in_slot p.known p.accepted

  pub put_image : (insertion s kind image).image ≡ image
  put_image = (insertion_inserts s kind image).same

  -- every code card can be put into an empty slot, whatever else the record says
  pub puts_in : (facts chip).coded ≡ true → chip_of kind ≡ Some chip → s.holds ≡ None → is_card (facts chip) image ≡ true → PutIn chip s kind image
  puts_in c known empty card = record { coded = c; known = known; accepted = accepts_card s kind image chip known empty card }
