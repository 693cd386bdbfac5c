-- The table of wrong readers, fourth part: cards without a code, and protected bytes.
use Rattle.std.specs.Prelude.{List, [], ◌∷◌, set}
use Rattle.chips.specs.declared.Chip.TheVariants.{Sle4428, Sle4418, Sle4442, Sle4432}
use Rattle.slot.specs.Slots.{removed}
use Rattle.vectors.specs.Plain.{image4418, image4432}
use Rattle.promise.specs.Visits.{select}
use Rattle.vectors.specs.Sessions.{fresh}
use Rattle.wrong.specs.Caught.{Witness, by_insertion}
use Rattle.wrong.specs.Inputs.{bare, shut, wide, mem4442, mem4428, kept4442, kept4428, kept4418, kept4432, plain, ask, on}
use Rattle.wrong.specs.WrongDowns as downs
use Rattle.wrong.specs.WrongSteps as steps
use Rattle.wrong.specs.WrongCommands as commands
use Rattle.wrong.specs.WrongPlain as plains

-- ---- cards without a code
abbrev pub plain_rows : List Witness
plain_rows =
    on plains.any_tail (shut Sle4432) (set image4432 260 0x01) (plain 0x65)
    ∷ on plains.any_tail (shut Sle4432) (set image4432 263 0x01) (plain 0x65)
    ∷ on plains.last_zero_alone (shut Sle4432) (set image4432 260 0x01) (plain 0x65)
    ∷ on plains.misses_last_zero (shut Sle4432) (set image4432 263 0x01) (plain 0x65)
    ∷ on plains.asks_own_bit (shut Sle4418) (set image4418 1151 0xDF) (plain 0x65)
    ∷ by_insertion plains.inserts_any_tail removed 31 (set image4432 260 0x01)
    ∷ by_insertion plains.inserts_any_tail removed 31 (set image4432 263 0x01)
    ∷ by_insertion plains.insert_asks_own_bit removed 21 (set image4418 1151 0xDF)
    ∷ by_insertion plains.inserts_coded removed 21 image4418
    ∷ by_insertion plains.inserts_coded removed 31 image4432
    ∷ on downs.open_plain (wide Sle4418) image4418 (plain 0x65)
    ∷ on downs.open_plain (wide Sle4432) image4432 (plain 0x65)
    ∷ on plains.select_opens (bare Sle4418) image4418 (select 0x05)
    ∷ on plains.select_opens (bare Sle4432) image4432 (select 0x06)
    ∷ by_insertion plains.insert_opens_plain removed 21 image4418
    ∷ by_insertion plains.insert_opens_plain removed 31 image4432
    ∷ on plains.reset_plain (fresh Sle4418) image4418 (plain 0x62)
    ∷ on plains.reset_plain (fresh Sle4432) image4432 (plain 0x62)
    ∷ on (plains.as_coded 0xB1) (shut Sle4418) image4418 (ask 0xB1 0x00 0x00 0x03 [])
    ∷ on (plains.as_coded 0xB1) (shut Sle4432) image4432 (ask 0xB1 0x00 0x00 0x04 [])
    ∷ on (plains.as_coded 0x20) (shut Sle4418) image4418 (ask 0x20 0x00 0x00 0x02 (0x06 ∷ 0x07 ∷ []))
    ∷ on (plains.as_coded 0x20) (shut Sle4432) image4432 (ask 0x20 0x00 0x00 0x03 (0x00 ∷ 0x00 ∷ 0x00 ∷ []))
    ∷ on (plains.as_coded 0xD2) (shut Sle4432) image4432 (ask 0xD2 0x00 0x01 0x03 (0x01 ∷ 0x02 ∷ 0x03 ∷ []))
    ∷ on plains.changes4418 (shut Sle4418) image4418 (ask 0xD2 0x00 0x01 0x02 (0x01 ∷ 0x02 ∷ []))
    ∷ on plains.pages_plain (shut Sle4418) image4418 (ask 0x01 0x00 0x00 0x01 (0x04 ∷ []))
    ∷ on plains.pages_plain (shut Sle4432) image4432 (ask 0x01 0x00 0x00 0x01 (0x04 ∷ []))
    ∷ on steps.length_first (shut Sle4418) image4418 (ask 0x20 0x00 0x00 0x09 [])
    ∷ on steps.length_first (shut Sle4432) image4432 (ask 0x20 0x00 0x00 0x09 [])
    ∷ on steps.length_first (shut Sle4418) image4418 (ask 0xB1 0x00 0x00 0x09 (0x00 ∷ []))
    ∷ on steps.length_first (shut Sle4432) image4432 (ask 0xD2 0x00 0x01 0x09 [])
    ∷ on (plains.refuses_plain 0xB0) (shut Sle4418) image4418 (ask 0xB0 0x00 0x00 0x01 [])
    ∷ on (plains.refuses_plain 0xB2) (shut Sle4418) image4418 (ask 0xB2 0x00 0x00 0x01 [])
    ∷ on (plains.refuses_plain 0xD0) (shut Sle4418) image4418 (ask 0xD0 0x00 0x00 0x01 (0x09 ∷ []))
    ∷ on (plains.refuses_plain 0xD1) (shut Sle4418) image4418 (ask 0xD1 0x00 0x00 0x01 (0xA2 ∷ []))
    ∷ on (plains.refuses_plain 0xB0) (shut Sle4432) image4432 (ask 0xB0 0x00 0x00 0x01 [])
    ∷ on (plains.refuses_plain 0xB2) (shut Sle4432) image4432 (ask 0xB2 0x00 0x00 0x04 [])
    ∷ on (plains.refuses_plain 0xD0) (shut Sle4432) image4432 (ask 0xD0 0x00 0x00 0x01 (0x09 ∷ []))
    ∷ on (plains.refuses_plain 0xD1) (shut Sle4432) image4432 (ask 0xD1 0x00 0x00 0x01 (0xA2 ∷ []))
    ∷ on plains.reach_of4428 (shut Sle4418) image4418 (ask 0xD1 0x03 0xFD 0x01 (0x05 ∷ []))
    ∷ on plains.reach_of4428 (shut Sle4418) image4418 (ask 0xD1 0x03 0xFF 0x01 (0x07 ∷ []))
    ∷ on plains.spares_3fd (shut Sle4418) image4418 (ask 0xD0 0x03 0xFD 0x01 (0x09 ∷ []))
    ∷ on plains.writes_zeros (shut Sle4432) image4432 (ask 0xD0 0x01 0x04 0x01 (0x05 ∷ []))
    ∷ on plains.protects_plain_past (shut Sle4418) image4418 (ask 0xD1 0x04 0x00 0x01 (0xFF ∷ []))
    ∷ on plains.protects_plain_past (shut Sle4432) image4432 (ask 0xD1 0x00 0x20 0x01 (0x00 ∷ []))
    ∷ on steps.reads_one_past (shut Sle4418) image4418 (ask 0xB0 0x03 0xFF 0x02 [])
    ∷ on steps.reads_one_less (shut Sle4418) image4418 (ask 0xB0 0x03 0xFF 0x01 [])
    ∷ on steps.reads_one_past (shut Sle4432) image4432 (ask 0xB0 0x00 0xFF 0x02 [])
    ∷ on steps.reads_one_less (shut Sle4432) image4432 (ask 0xB0 0x00 0xFF 0x01 [])
    ∷ on plains.plain_needs_open (shut Sle4418) image4418 (ask 0xD0 0x00 0x00 0x01 (0x09 ∷ []))
    ∷ on plains.plain_needs_open (shut Sle4418) image4418 (ask 0xD1 0x00 0x00 0x01 (0xA2 ∷ []))
    ∷ on plains.plain_needs_open (shut Sle4432) image4432 (ask 0xD0 0x00 0x00 0x01 (0x09 ∷ []))
    ∷ on plains.plain_needs_open (shut Sle4432) image4432 (ask 0xD1 0x00 0x00 0x01 (0xA2 ∷ []))
    ∷ on plains.blanks_3fe (shut Sle4418) image4418 (ask 0xB0 0x03 0xFE 0x02 [])
    ∷ on commands.covers_less (shut Sle4418) image4418 (ask 0xB2 0x03 0xF8 0x01 [])
    ∷ on commands.covers_less (shut Sle4432) image4432 (ask 0xB2 0x00 0x00 0x04 [])
    ∷ []

-- ---- protected bytes, on all four kinds
abbrev pub protected_rows : List Witness
protected_rows =
    on plains.write_protects (wide Sle4428) mem4428 (ask 0xD0 0x00 0x00 0x01 (0x09 ∷ []))
    ∷ on plains.write_protects (shut Sle4418) image4418 (ask 0xD0 0x00 0x00 0x01 (0x09 ∷ []))
    ∷ on plains.write_protects (wide Sle4442) mem4442 (ask 0xD0 0x00 0x00 0x01 (0x09 ∷ []))
    ∷ on plains.write_protects (shut Sle4432) image4432 (ask 0xD0 0x00 0x00 0x01 (0x09 ∷ []))
    ∷ on commands.protects_all (wide Sle4428) mem4428 (ask 0xD1 0x00 0x00 0x01 (0x09 ∷ []))
    ∷ on commands.protects_all (shut Sle4418) image4418 (ask 0xD1 0x00 0x00 0x01 (0x09 ∷ []))
    ∷ on commands.protects_all (shut Sle4432) image4432 (ask 0xD1 0x00 0x00 0x01 (0x09 ∷ []))
    ∷ on commands.protects_nothing (wide Sle4428) mem4428 (ask 0xD1 0x00 0x00 0x01 (0x00 ∷ []))
    ∷ on commands.protects_nothing (shut Sle4418) image4418 (ask 0xD1 0x03 0xFF 0x01 (0x07 ∷ []))
    ∷ on commands.protects_nothing (shut Sle4432) image4432 (ask 0xD1 0x00 0x00 0x01 (0xA2 ∷ []))
    ∷ on plains.protects_eight (wide Sle4428) mem4428 (ask 0xD1 0x00 0x00 0x01 (0x00 ∷ []))
    ∷ on plains.protects_eight (shut Sle4418) image4418 (ask 0xD1 0x03 0xFF 0x01 (0x07 ∷ []))
    ∷ on plains.protects_eight (wide Sle4442) mem4442 (ask 0xD1 0x00 0x00 0x01 (0xA2 ∷ []))
    ∷ on plains.protects_eight (shut Sle4432) image4432 (ask 0xD1 0x00 0x00 0x01 (0xA2 ∷ []))
    ∷ on plains.protect_frees (wide Sle4428) kept4428 (ask 0xD1 0x00 0x01 0x01 (0x09 ∷ []))
    ∷ on plains.protect_frees (shut Sle4418) kept4418 (ask 0xD1 0x00 0x01 0x01 (0x09 ∷ []))
    ∷ on plains.protect_frees (wide Sle4442) kept4442 (ask 0xD1 0x00 0x01 0x01 (0x09 ∷ []))
    ∷ on plains.protect_frees (shut Sle4432) kept4432 (ask 0xD1 0x00 0x01 0x01 (0x09 ∷ []))
    ∷ on plains.power_frees (shut Sle4428) kept4428 (plain 0x62)
    ∷ on plains.power_frees (shut Sle4418) kept4418 (plain 0x62)
    ∷ on plains.power_frees (shut Sle4442) kept4442 (plain 0x62)
    ∷ on plains.power_frees (shut Sle4432) kept4432 (plain 0x62)
    ∷ on plains.failure_frees (shut Sle4418) kept4418 (plain 0x69)
    ∷ on plains.failure_frees (shut Sle4442) kept4442 (plain 0x69)
    ∷ on plains.down_frees (shut Sle4418) kept4418 []
    ∷ on plains.down_frees (shut Sle4442) kept4442 []
    ∷ []
