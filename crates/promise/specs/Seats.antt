-- An I2C card of any size that is active and has its type selected, with a reader page that command 01 chose or did not: its image is 00h and then FFh.
use Rattle.std.specs.Prelude.{ℕ, ◌-◌, Bool, List, ◌∷◌, replicate}
use Rattle.chips.specs.declared.Chip.{Chip}
use Rattle.chips.specs.Kinds.{facts}
use Rattle.slot.specs.declared.Slot.{Slot}
use Rattle.slot.specs.Slots.{page_as, chosen_as}
use Rattle.vectors.specs.Sessions.{selected_slot}

abbrev pub seated : Chip → Bool → ℕ → Slot
seated chip chosen page = chosen_as chosen (page_as page (selected_slot chip))

unfoldable pub seat_image : Chip → List ℕ
seat_image chip = 0x00 ∷ replicate ((facts chip).size - 1) 0xFF
