-- The table of wrong readers: the page by the card's type, and the flag.
use Rattle.std.specs.Prelude.{ℕ, true, false, List, [], ◌∷◌, replicate}
use Rattle.chips.specs.declared.Chip.TheVariants.{I2c1, I2c4, I2c32, I2c64, I2c128, I2c256, I2c512, I2c1024, Sle4428, Sle4418, Sle4442, Sle4432}
use Rattle.slot.specs.declared.Slot.{Slot}
use Rattle.slot.specs.Slots.{removed, page_as, chosen_as, paged}
use Rattle.vectors.specs.Sessions.{fresh, right4442}
use Rattle.vectors.specs.Plain.{image4418, image4432}
use Rattle.vectors.specs.Parameters.{setting}
use Rattle.promise.specs.Visits.{select, set_page}
use Rattle.wrong.specs.Wrong.{commanding}
use Rattle.wrong.specs.Caught.{Witness, by_insertion, by_removal, by_seat}
use Rattle.wrong.specs.Inputs.{bare, shut, wide, mem4442, mem4428, mem_i2c, plain, ask, on}
use Rattle.wrong.specs.ParamRows.{good1}
use Rattle.wrong.specs.WrongPages as pages

-- the I2C card of 1 kbit with page 16 chosen; an open SLE4442 whose record says chosen, too; an I2C card of 32 kbit, all FFh
abbrev pub chosen_i2c : Slot
chosen_i2c = paged 16 (shut I2c1)

abbrev pub chosen4442 : Slot
chosen4442 = chosen_as true (wide Sle4442)

abbrev pub mem_i2c32 : List ℕ
mem_i2c32 = replicate 4096 0xFF

abbrev pub default_rows : List Witness
default_rows =
    by_seat pages.forgets_choice I2c1 true 16 (select 0x01)
    ∷ by_seat pages.forgets_choice I2c32 true 8 (select 0x02)
    ∷ by_seat pages.forgets_choice I2c64 true 8 (select 0x02)
    ∷ by_seat pages.forgets_choice I2c128 true 8 (select 0x02)
    ∷ by_seat pages.forgets_choice I2c256 true 8 (select 0x02)
    ∷ by_seat pages.forgets_choice I2c512 true 8 (select 0x02)
    ∷ by_seat pages.forgets_choice I2c1024 true 8 (select 0x02)
    ∷ by_seat pages.select_leaves I2c1 false 16 (select 0x01)
    ∷ by_seat pages.select_leaves I2c32 false 8 (select 0x02)
    ∷ by_seat pages.select_leaves I2c64 false 8 (select 0x02)
    ∷ by_seat pages.select_leaves I2c128 false 8 (select 0x02)
    ∷ by_seat pages.select_leaves I2c256 false 8 (select 0x02)
    ∷ by_seat pages.select_leaves I2c512 false 8 (select 0x02)
    ∷ by_seat pages.select_leaves I2c1024 false 8 (select 0x02)
    ∷ by_seat (pages.select_sets 0x01 32) I2c1 false 8 (select 0x01)
    ∷ by_seat (pages.select_sets 0x01 16) I2c4 false 8 (select 0x01)
    ∷ by_seat (pages.select_sets 0x02 16) I2c32 false 8 (select 0x02)
    ∷ by_seat (pages.select_sets 0x02 64) I2c1024 false 8 (select 0x02)
    ∷ by_seat (pages.select_sets 0x02 128) I2c1024 false 8 (select 0x02)
    ∷ on (commanding (pages.select_sets 0x05 8)) (page_as 16 (shut Sle4428)) mem4428 (select 0x05)
    ∷ on (commanding (pages.select_sets 0x05 32)) (shut Sle4428) mem4428 (select 0x05)
    ∷ on (commanding (pages.select_sets 0x05 8)) (page_as 16 (shut Sle4418)) image4418 (select 0x05)
    ∷ on (commanding (pages.select_sets 0x05 32)) (shut Sle4418) image4418 (select 0x05)
    ∷ on (commanding (pages.select_sets 0x06 8)) (page_as 16 (shut Sle4442)) mem4442 (select 0x06)
    ∷ on (commanding (pages.select_sets 0x06 32)) (shut Sle4442) mem4442 (select 0x06)
    ∷ on (commanding (pages.select_sets 0x06 8)) (page_as 16 (shut Sle4432)) image4432 (select 0x06)
    ∷ on (commanding (pages.select_sets 0x06 32)) (shut Sle4432) image4432 (select 0x06)
    ∷ by_seat pages.selects_chip_page I2c4 false 8 (select 0x01)
    ∷ by_seat pages.selects_chip_page I2c128 false 8 (select 0x02)
    ∷ by_seat pages.first_select_only I2c32 false 8 (select 0x02)
    ∷ by_seat pages.refused_selects I2c32 false 8 (select 0x01)
    ∷ by_seat pages.refused_selects I2c1 false 16 (select 0x02)
    ∷ by_seat pages.page_unflagged I2c1 false 8 (set_page 0x04)
    ∷ by_seat pages.page_unflagged I2c32 false 32 (set_page 0x03)
    ∷ by_seat pages.eight_unflagged I2c1 false 8 (set_page 0x03)
    ∷ by_seat pages.eight_unflagged I2c32 false 32 (set_page 0x03)
    ∷ by_seat pages.same_unflagged I2c1 false 8 (set_page 0x03)
    ∷ by_seat pages.same_unflagged I2c32 false 32 (set_page 0x05)
    ∷ by_seat pages.refused_flags I2c1 false 8 (set_page 0x02)
    ∷ by_seat pages.refused_flags I2c32 false 32 (set_page 0x08)
    ∷ by_seat pages.refused_flags I2c1 false 8 (ask 0x01 0x00 0x00 0x02 (0x03 ∷ 0x03 ∷ []))
    ∷ by_seat pages.refused_flags I2c1 false 8 (ask 0x01 0x00 0x01 0x01 (0x03 ∷ []))
    ∷ on (commanding pages.refused_flags) (bare I2c1) mem_i2c (set_page 0x03)
    ∷ on (commanding pages.refused_flags) (shut Sle4442) mem4442 (set_page 0x03)
    ∷ on (pages.type_flags false 0x62) chosen_i2c mem_i2c (plain 0x62)
    ∷ on (pages.type_flags true 0x62) (shut I2c1) mem_i2c (plain 0x62)
    ∷ on (pages.type_flags false 0x63) chosen_i2c mem_i2c (plain 0x63)
    ∷ on (pages.type_flags true 0x63) (shut I2c1) mem_i2c (plain 0x63)
    ∷ on (pages.type_flags false 0x65) chosen_i2c mem_i2c (plain 0x65)
    ∷ on (pages.type_flags true 0x65) (shut I2c1) mem_i2c (plain 0x65)
    ∷ on (pages.type_flags false 0x6C) chosen_i2c mem_i2c (plain 0x6C)
    ∷ on (pages.type_flags true 0x6C) (shut I2c1) mem_i2c (plain 0x6C)
    ∷ on (pages.type_flags false 0x6D) chosen_i2c mem_i2c (plain 0x6D)
    ∷ on (pages.type_flags true 0x6D) (shut I2c1) mem_i2c (plain 0x6D)
    ∷ on (pages.type_flags false 0x61) chosen_i2c mem_i2c (setting 1 good1)
    ∷ on (pages.type_flags true 0x61) (shut I2c1) mem_i2c (setting 1 good1)
    ∷ on (pages.command_flags false 0xA4) chosen_i2c mem_i2c (select 0x01)
    ∷ on (pages.command_flags true 0xA4) (shut I2c1) mem_i2c (select 0x01)
    ∷ on (pages.command_flags false 0xB0) chosen_i2c mem_i2c (ask 0xB0 0x00 0x00 0x01 [])
    ∷ on (pages.command_flags true 0xB0) (shut I2c1) mem_i2c (ask 0xB0 0x00 0x00 0x01 [])
    ∷ on (pages.command_flags false 0xD0) chosen_i2c mem_i2c (ask 0xD0 0x00 0x00 0x01 (0x05 ∷ []))
    ∷ on (pages.command_flags true 0xD0) (shut I2c1) mem_i2c (ask 0xD0 0x00 0x00 0x01 (0x05 ∷ []))
    ∷ on (pages.command_flags false 0xB1) chosen4442 mem4442 (ask 0xB1 0x00 0x00 0x04 [])
    ∷ on (pages.command_flags true 0xB1) (wide Sle4442) mem4442 (ask 0xB1 0x00 0x00 0x04 [])
    ∷ on (pages.command_flags false 0xB2) chosen4442 mem4442 (ask 0xB2 0x00 0x00 0x04 [])
    ∷ on (pages.command_flags true 0xB2) (wide Sle4442) mem4442 (ask 0xB2 0x00 0x00 0x04 [])
    ∷ on (pages.command_flags false 0xD1) chosen4442 mem4442 (ask 0xD1 0x00 0x00 0x01 (0xA2 ∷ []))
    ∷ on (pages.command_flags true 0xD1) (wide Sle4442) mem4442 (ask 0xD1 0x00 0x00 0x01 (0xA2 ∷ []))
    ∷ on (pages.command_flags false 0xD2) chosen4442 mem4442 (ask 0xD2 0x00 0x01 0x03 (0x01 ∷ 0x02 ∷ 0x03 ∷ []))
    ∷ on (pages.command_flags true 0xD2) (wide Sle4442) mem4442 (ask 0xD2 0x00 0x01 0x03 (0x01 ∷ 0x02 ∷ 0x03 ∷ []))
    ∷ on (pages.command_flags false 0x20) chosen4442 mem4442 right4442
    ∷ on (pages.command_flags true 0x20) (wide Sle4442) mem4442 right4442
    ∷ on pages.refusal_clears chosen_i2c mem_i2c (set_page 0x02)
    ∷ on pages.refusal_clears chosen_i2c mem_i2c (select 0x02)
    ∷ on pages.failure_clears chosen_i2c mem_i2c (plain 0x69)
    ∷ on pages.down_clears chosen_i2c mem_i2c []
    ∷ on pages.down_clears (chosen_as true removed) [] (plain 0x65)
    ∷ on (pages.power_pages 0x62) (fresh I2c32) mem_i2c32 (plain 0x62)
    ∷ on (pages.power_pages 0x63) (bare I2c32) mem_i2c32 (plain 0x63)
    ∷ on pages.empty_chosen (chosen_as true removed) [] (plain 0x65)
    ∷ on pages.unset_defaults (page_as 16 (shut I2c1)) mem_i2c (plain 0x65)
    ∷ on pages.chosen_not8 (paged 8 (shut I2c1)) mem_i2c (plain 0x65)
    ∷ on pages.large8 (page_as 8 (shut I2c32)) mem_i2c32 (plain 0x65)
    ∷ on pages.chosen_paged chosen4442 mem4442 (plain 0x65)
    ∷ on pages.chosen_active (chosen_as true (fresh I2c1)) mem_i2c (plain 0x65)
    ∷ on pages.chosen_typed (chosen_as true (bare I2c1)) mem_i2c (plain 0x65)
    ∷ by_insertion pages.insert_keeps_flag (chosen_as true removed) 1 mem_i2c
    ∷ by_insertion pages.insert_flags removed 1 mem_i2c
    ∷ by_insertion pages.insert_pages removed 6 mem_i2c32
    ∷ by_removal pages.remove_keeps_flag chosen_i2c
    ∷ by_removal pages.remove_flags (shut I2c1)
    ∷ []
