-- The table of wrong readers, second part: steps 1 to 9, what the commands do, and the table of cards.
use Rattle.std.specs.Prelude.{List, [], ◌∷◌, ◌++◌, replicate, set}
use Rattle.chips.specs.declared.Chip.TheVariants.{I2c1, I2c2, I2c4, I2c8, I2c16, I2c32, I2c64, I2c128, I2c256, I2c512, I2c1024, Sle4428, Sle4418, Sle4442, Sle4432}
use Rattle.slot.specs.Slots.{removed, paged}
use Rattle.steps.specs.declared.Status.{Status}
use Rattle.vectors.specs.Sessions.{transfer, wrong4442, right4442}
use Rattle.vectors.specs.Plain.{image4418, image4432}
use Rattle.promise.specs.Visits.{select, wrong4428, right4428, read_counter}
use Rattle.wrong.specs.Caught.{Witness, by_insertion, by_command}
use Rattle.wrong.specs.Wrong.{commanding}
use Rattle.wrong.specs.Inputs.{bare, shut, wide, mem4442, mem4428, kept4442, mem_i2c, ask, sixteen, on, at4442}
use Rattle.wrong.specs.WrongDowns as downs
use Rattle.wrong.specs.WrongSteps as steps
use Rattle.wrong.specs.WrongCommands as commands

-- ---- steps 1 to 9 in another order
abbrev pub step_order_rows : List Witness
step_order_rows =
    at4442 steps.class_first 0x07 (transfer (0x00 ∷ 0xB0 ∷ 0x00 ∷ 0x00 ∷ []))
    ∷ at4442 steps.ins_first 0x07 (transfer (0x00 ∷ 0x00 ∷ 0x00 ∷ 0x00 ∷ 0x00 ∷ []))
    ∷ on steps.type_first (bare Sle4442) mem4442 (ask 0x00 0x00 0x00 0x00 [])
    ∷ on steps.has_first (bare Sle4442) mem4442 (ask 0x01 0x00 0x00 0x01 (0x03 ∷ []))
    ∷ at4442 steps.length_first 0x07 (ask 0x01 0x00 0x00 0x02 (0x03 ∷ []))
    ∷ at4442 steps.place_first 0x07 (ask 0x20 0x00 0x01 0x02 (0x11 ∷ 0x22 ∷ []))
    ∷ at4442 steps.value_first 0x07 (ask 0xA4 0x00 0x01 0x01 (0x05 ∷ []))
    ∷ at4442 steps.open_first 0x07 (ask 0xD0 0x01 0x00 0x01 (0x05 ∷ []))
    ∷ []

-- ---- steps 1 to 5
abbrev pub step_rows1to5 : List Witness
step_rows1to5 =
    at4442 steps.takes_four 0x07 (transfer (0x00 ∷ 0xB0 ∷ 0x00 ∷ 0x00 ∷ []))
    ∷ at4442 steps.refuses_five 0x07 (ask 0xB0 0x00 0x00 0x01 [])
    ∷ at4442 steps.any_class 0x07 (set wrong4442 10 0x00)
    ∷ on (steps.takes_ins 0xD6 0xD0) (shut I2c1) mem_i2c (ask 0xD6 0x00 0x00 0x01 (0x05 ∷ []))
    ∷ at4442 (steps.takes_ins 0x21 0x20) 0x07 (set wrong4442 11 0x21)
    ∷ on (steps.drops_ins 0xA4) (bare Sle4442) mem4442 (ask 0xA4 0x00 0x00 0x01 (0x06 ∷ []))
    ∷ on (steps.drops_ins 0x01) (shut I2c1) mem_i2c (ask 0x01 0x00 0x00 0x01 (0x04 ∷ []))
    ∷ at4442 (steps.drops_ins 0xB0) 0x07 (ask 0xB0 0x00 0x00 0x01 [])
    ∷ at4442 (steps.drops_ins 0xB1) 0x07 read_counter
    ∷ at4442 (steps.drops_ins 0xB2) 0x07 (ask 0xB2 0x00 0x00 0x04 [])
    ∷ on (steps.drops_ins 0xD0) (wide Sle4442) mem4442 (ask 0xD0 0x00 0x40 0x01 (0x05 ∷ []))
    ∷ on (steps.drops_ins 0xD1) (wide Sle4442) mem4442 (ask 0xD1 0x00 0x00 0x01 (0xA2 ∷ []))
    ∷ at4442 (steps.drops_ins 0x20) 0x07 wrong4442
    ∷ on (steps.drops_ins 0xD2) (wide Sle4442) mem4442 (ask 0xD2 0x00 0x01 0x03 (0x01 ∷ 0x02 ∷ 0x03 ∷ []))
    ∷ on steps.any_selection (bare Sle4442) mem4442 wrong4442
    ∷ on steps.select_needs_type (bare Sle4442) mem4442 (ask 0xA4 0x00 0x00 0x01 (0x06 ∷ []))
    ∷ on steps.changes4428 (wide Sle4428) mem4428 (ask 0xD2 0x00 0x01 0x02 (0x01 ∷ 0x02 ∷ []))
    ∷ at4442 steps.pages_code_card 0x07 (ask 0x01 0x00 0x00 0x01 (0x04 ∷ []))
    ∷ []

-- ---- step 6: lengths
abbrev pub step_rows6 : List Witness
step_rows6 =
    at4442 steps.reads_with_data 0x07 (ask 0xB0 0x00 0x00 0x01 (0x00 ∷ []))
    ∷ on steps.p3_smaller (shut I2c1) mem_i2c (ask 0xD0 0x00 0x00 0x01 (0x01 ∷ 0x02 ∷ []))
    ∷ on steps.p3_larger (shut I2c1) mem_i2c (ask 0xD0 0x00 0x00 0x03 (0x01 ∷ 0x02 ∷ []))
    ∷ at4442 steps.zero_is256 0x07 (ask 0xB0 0x00 0x00 0x00 [])
    ∷ at4442 steps.refuses255 0x07 (ask 0xB0 0x00 0x00 0xFF [])
    ∷ on steps.writes_nothing (shut I2c1) mem_i2c (ask 0xD0 0x00 0x00 0x00 [])
    ∷ at4442 steps.counter_alone 0x07 (ask 0xB1 0x00 0x00 0x01 [])
    ∷ at4442 steps.fewer_bits 0x07 (ask 0xB2 0x00 0x00 0x01 [])
    ∷ on steps.bits33 (shut Sle4428) mem4428 (ask 0xB2 0x00 0x00 0x21 [])
    ∷ on steps.selects_longer (bare Sle4442) mem4442 (ask 0xA4 0x00 0x00 0x02 (0x06 ∷ 0x06 ∷ []))
    ∷ at4442 steps.long_code 0x07 (ask 0x20 0x00 0x00 0x04 (0x11 ∷ 0x22 ∷ 0x33 ∷ 0x44 ∷ []))
    ∷ at4442 steps.short_code 0x07 (ask 0x20 0x00 0x00 0x01 (0x11 ∷ []))
    ∷ []

-- ---- step 7: places
abbrev pub step_rows7 : List Witness
step_rows7 =
    on (steps.any_place 0xA4 0x00) (bare Sle4442) mem4442 (ask 0xA4 0x00 0x01 0x01 (0x06 ∷ []))
    ∷ on (steps.any_place 0x01 0x00) (shut I2c1) mem_i2c (ask 0x01 0x00 0x01 0x01 (0x04 ∷ []))
    ∷ at4442 (steps.any_place 0xB1 0x00) 0x07 (ask 0xB1 0x00 0x10 0x04 [])
    ∷ at4442 (steps.any_place 0xB2 0x00) 0x07 (ask 0xB2 0x00 0x01 0x04 [])
    ∷ at4442 (steps.any_place 0x20 0x00) 0x07 (ask 0x20 0x00 0x01 0x03 (0x01 ∷ 0x02 ∷ 0x03 ∷ []))
    ∷ on (steps.any_place 0xD2 0x01) (wide Sle4442) mem4442 (ask 0xD2 0x00 0x00 0x03 (0x01 ∷ 0x02 ∷ 0x03 ∷ []))
    ∷ at4442 steps.low_address 0x07 (ask 0xB0 0x01 0x00 0x01 [])
    ∷ at4442 steps.place_low_first 0x07 (ask 0xB0 0x00 0x01 0x01 [])
    ∷ on steps.reads_past (wide Sle4442) mem4442 (ask 0xB0 0x01 0x05 0x03 [])
    ∷ at4442 steps.reads_one_past 0x07 (ask 0xB0 0x00 0xFF 0x02 [])
    ∷ at4442 steps.reads_one_less 0x07 (ask 0xB0 0x00 0xFF 0x01 [])
    ∷ on steps.writes_one_past (wide Sle4442) mem4442 (ask 0xD0 0x00 0xFF 0x02 (0x01 ∷ 0x02 ∷ []))
    ∷ on steps.writes_counter (wide Sle4428) mem4428 (ask 0xD0 0x03 0xFC 0x02 (0x01 ∷ 0x02 ∷ []))
    ∷ on steps.spares_code (wide Sle4428) mem4428 (ask 0xD0 0x03 0xFE 0x02 (0x01 ∷ 0x02 ∷ []))
    ∷ on steps.protects_one_past (wide Sle4442) mem4442 (ask 0xD1 0x00 0x20 0x01 (0x00 ∷ []))
    ∷ on steps.protects_one_past (wide Sle4428) mem4428 (ask 0xD1 0x03 0xFD 0x01 (0xFF ∷ []))
    ∷ on steps.protects_one_less (wide Sle4442) mem4442 (ask 0xD1 0x00 0x1F 0x01 (0x00 ∷ []))
    ∷ on steps.bits_as_bytes (shut Sle4428) mem4428 (ask 0xB2 0x03 0xFC 0x01 [])
    ∷ []

-- ---- steps 8 and 9: values, open
abbrev pub step_rows8to9 : List Witness
step_rows8to9 =
    on steps.selects_own (bare Sle4442) mem4442 (ask 0xA4 0x00 0x00 0x01 (0x05 ∷ []))
    ∷ on steps.selects_named (bare Sle4442) mem4442 (ask 0xA4 0x00 0x00 0x01 (0x05 ∷ []))
    ∷ on steps.takes_page2 (shut I2c1) mem_i2c (ask 0x01 0x00 0x00 0x01 (0x02 ∷ []))
    ∷ on steps.takes_page8 (shut I2c1) mem_i2c (ask 0x01 0x00 0x00 0x01 (0x08 ∷ []))
    ∷ on (steps.refuses_page 0x03) (shut I2c1) mem_i2c (ask 0x01 0x00 0x00 0x01 (0x03 ∷ []))
    ∷ on (steps.refuses_page 0x07) (shut I2c1) mem_i2c (ask 0x01 0x00 0x00 0x01 (0x07 ∷ []))
    ∷ at4442 steps.writes_closed 0x07 (ask 0xD0 0x00 0x40 0x01 (0x05 ∷ []))
    ∷ at4442 steps.writes_closed 0x07 (ask 0xD1 0x00 0x00 0x01 (0xA2 ∷ []))
    ∷ at4442 steps.writes_closed 0x07 (ask 0xD2 0x00 0x01 0x03 (0x01 ∷ 0x02 ∷ 0x03 ∷ []))
    ∷ at4442 steps.reads_need_open 0x07 (ask 0xB0 0x00 0x00 0x01 [])
    ∷ on steps.i2c_needs_open (shut I2c1) mem_i2c (ask 0xD0 0x00 0x00 0x01 (0x05 ∷ []))
    ∷ []

-- ---- status words, and what a refused command leaves
abbrev pub word_rows : List Witness
word_rows =
    at4442 (steps.rewords Status.Length (0x6C ∷ 0x00 ∷ [])) 0x07 (ask 0xB0 0x00 0x00 0x00 [])
    ∷ at4442 (steps.rewords Status.Class (0x68 ∷ 0x00 ∷ [])) 0x07 (set wrong4442 10 0x00)
    ∷ at4442 (steps.rewords Status.Instruction (0x6E ∷ 0x00 ∷ [])) 0x07 (ask 0x00 0x00 0x00 0x00 [])
    ∷ on (steps.rewords Status.Unselected (0x69 ∷ 0x86 ∷ [])) (bare Sle4442) mem4442 wrong4442
    ∷ at4442 (steps.rewords Status.Place (0x6A ∷ 0x86 ∷ [])) 0x07 (ask 0xB0 0x01 0x00 0x01 [])
    ∷ at4442 (steps.rewords Status.Value (0x6B ∷ 0x00 ∷ [])) 0x07 (ask 0xA4 0x00 0x00 0x01 (0x05 ∷ []))
    ∷ at4442 (steps.rewords Status.Denied (0x69 ∷ 0x83 ∷ [])) 0x07 (ask 0xD0 0x00 0x40 0x01 (0x05 ∷ []))
    ∷ on steps.refusal_closes (wide Sle4442) mem4442 (ask 0xB0 0x01 0x00 0x01 [])
    ∷ at4442 (steps.charges Status.Class) 0x07 (set wrong4442 10 0x00)
    ∷ on (steps.charges Status.Unselected) (bare Sle4442) mem4442 wrong4442
    ∷ at4442 (steps.charges Status.Length) 0x07 (ask 0x20 0x00 0x00 0x02 (0x01 ∷ 0x02 ∷ []))
    ∷ at4442 (steps.charges Status.Place) 0x07 (ask 0x20 0x00 0x01 0x03 (0x01 ∷ 0x02 ∷ 0x03 ∷ []))
    ∷ []

-- ---- what the commands do
abbrev pub command_rows : List Witness
command_rows =
    on commands.select_keeps_open (wide Sle4442) mem4442 (ask 0xA4 0x00 0x00 0x01 (0x06 ∷ []))
    ∷ on commands.selects_nothing (bare Sle4442) mem4442 (ask 0xA4 0x00 0x00 0x01 (0x06 ∷ []))
    ∷ on commands.select_resets_page (paged 16 (shut I2c1)) mem_i2c (ask 0xA4 0x00 0x00 0x01 (0x01 ∷ []))
    ∷ at4442 commands.select_gives_all 0x00 (ask 0xA4 0x00 0x00 0x01 (0x06 ∷ []))
    ∷ on commands.pages_double (shut I2c1) mem_i2c (ask 0x01 0x00 0x00 0x01 (0x03 ∷ []))
    ∷ on commands.pages_nothing (shut I2c1) mem_i2c (ask 0x01 0x00 0x00 0x01 (0x04 ∷ []))
    ∷ on commands.shows_code (shut Sle4428) mem4428 (ask 0xB0 0x03 0xFE 0x02 [])
    ∷ on commands.hides_code (wide Sle4428) mem4428 (ask 0xB0 0x03 0xFE 0x02 [])
    ∷ on commands.hides_counter (shut Sle4428) mem4428 (ask 0xB0 0x03 0xFD 0x01 [])
    ∷ at4442 commands.reads_from_zero 0x07 (ask 0xB0 0x00 0x01 0x01 [])
    ∷ at4442 commands.word_before_bytes 0x07 (ask 0xB0 0x00 0x00 0x01 [])
    ∷ at4442 commands.wordless 0x07 (ask 0xB0 0x00 0x00 0x01 [])
    ∷ at4442 commands.blocked_reads 0x00 (ask 0xB0 0x00 0x00 0x01 [])
    ∷ at4442 commands.pads_with_code 0x07 read_counter
    ∷ at4442 commands.pads_with_ones 0x07 read_counter
    ∷ at4442 commands.reads_code 0x07 read_counter
    ∷ at4442 commands.pads_short 0x07 read_counter
    ∷ at4442 commands.reads_tries 0x07 read_counter
    ∷ at4442 commands.reads_bits 0x07 read_counter
    ∷ on commands.bits_from_zero (shut Sle4428) (set mem4428 1024 0xFE) (ask 0xB2 0x00 0x08 0x01 [])
    ∷ on commands.bits_from_byte (shut Sle4428) (set mem4428 1024 0xFE) (ask 0xB2 0x00 0x01 0x01 [])
    ∷ at4442 commands.bits_turned 0x07 (ask 0xB2 0x00 0x00 0x04 [])
    ∷ on commands.protects_all (wide Sle4442) mem4442 (ask 0xD1 0x00 0x00 0x02 (0xA2 ∷ 0x00 ∷ []))
    ∷ on commands.protects_nothing (wide Sle4442) mem4442 (ask 0xD1 0x00 0x00 0x01 (0xA2 ∷ []))
    ∷ on commands.protects_mirrored (wide Sle4442) mem4442 (ask 0xD1 0x00 0x00 0x01 (0xA2 ∷ []))
    ∷ on commands.protect_stops (wide Sle4442) mem4442 (ask 0xD1 0x00 0x00 0x02 (0x00 ∷ 0x13 ∷ []))
    ∷ on commands.protect_stores (wide Sle4442) mem4442 (ask 0xD1 0x00 0x00 0x01 (0x00 ∷ []))
    ∷ on commands.stores_next (wide Sle4442) mem4442 (ask 0xD0 0x00 0x40 0x01 (0x05 ∷ []))
    ∷ on commands.store_closes (wide Sle4442) mem4442 (ask 0xD0 0x00 0x40 0x01 (0x05 ∷ []))
    ∷ on commands.change_closes (wide Sle4442) mem4442 (ask 0xD2 0x00 0x01 0x03 (0x01 ∷ 0x02 ∷ 0x03 ∷ []))
    ∷ on commands.changes_counter (wide Sle4442) mem4442 (ask 0xD2 0x00 0x01 0x03 (0x01 ∷ 0x02 ∷ 0x03 ∷ []))
    ∷ on commands.changes_nothing (wide Sle4442) mem4442 (ask 0xD2 0x00 0x01 0x03 (0x01 ∷ 0x02 ∷ 0x03 ∷ []))
    ∷ on commands.changes_first (wide Sle4442) mem4442 (ask 0xD2 0x00 0x01 0x03 (0x01 ∷ 0x02 ∷ 0x03 ∷ []))
    ∷ []

-- ---- page writes
abbrev pub page_rows : List Witness
page_rows =
    on commands.goes_straight (paged 16 (shut I2c1)) mem_i2c (ask 0xD0 0x00 0x00 0x10 sixteen)
    ∷ on commands.cuts_from_start (shut I2c1) mem_i2c (ask 0xD0 0x00 0x06 0x04 (0x01 ∷ 0x02 ∷ 0x03 ∷ 0x04 ∷ []))
    ∷ on commands.first_bytes_stay (paged 16 (shut I2c1)) mem_i2c (ask 0xD0 0x00 0x00 0x10 sixteen)
    ∷ on commands.page_of8 (paged 16 (shut I2c4)) (replicate 512 0xFF) (ask 0xD0 0x00 0x00 0x10 sixteen)
    ∷ []

-- ---- codes and tries
abbrev pub code_rows : List Witness
code_rows =
    at4442 commands.burns_none 0x07 wrong4442
    ∷ at4442 commands.burns_two 0x07 wrong4442
    ∷ at4442 commands.burns_highest 0x07 wrong4442
    ∷ at4442 commands.burns_all 0x07 wrong4442
    ∷ at4442 commands.refills_at_zero 0x00 wrong4442
    ∷ on commands.trusts_open (wide Sle4442) mem4442 wrong4442
    ∷ at4442 commands.wrong_becomes_code 0x07 wrong4442
    ∷ at4442 commands.opens_at_zero 0x00 right4442
    ∷ at4442 commands.right_leaves_spent 0x07 right4442
    ∷ at4442 commands.right_leaves_counter 0x03 right4442
    ∷ at4442 commands.right_gives_try 0x01 right4442
    ∷ on commands.full_is7 (shut Sle4428) mem4428 (ask 0x20 0x00 0x00 0x02 (0x11 ∷ 0x22 ∷ []))
    ∷ at4442 commands.right_stays_closed 0x07 right4442
    ∷ at4442 commands.any_code_opens 0x07 wrong4442
    ∷ at4442 commands.first_byte_opens 0x07 (ask 0x20 0x00 0x00 0x03 (0x11 ∷ 0x00 ∷ 0x00 ∷ []))
    ∷ at4442 commands.master_opens 0x07 (ask 0x20 0x00 0x00 0x03 (0xFF ∷ 0xFF ∷ 0xFF ∷ []))
    ∷ at4442 commands.tells_before 0x07 wrong4442
    ∷ at4442 commands.tells63 0x07 wrong4442
    ∷ at4442 commands.tells_tries 0x07 wrong4442
    ∷ at4442 commands.tells_done 0x07 wrong4442
    ∷ at4442 commands.tells_code 0x07 wrong4442
    ∷ at4442 commands.wrong_unselects 0x07 wrong4442
    ∷ at4442 commands.wrong_powers_off 0x07 wrong4442
    ∷ []

-- ---- the numbers of a code card
abbrev pub number_rows : List Witness
number_rows =
    at4442 commands.counter_before 0x07 wrong4442
    ∷ on commands.counter_before (shut Sle4428) mem4428 wrong4428
    ∷ at4442 commands.code_behind 0x07 right4442
    ∷ on commands.code_behind (shut Sle4428) mem4428 right4428
    ∷ on commands.bits_behind (shut Sle4442) kept4442 (ask 0xB2 0x00 0x00 0x04 [])
    ∷ on commands.bits_behind (shut Sle4428) (set mem4428 1024 0xFE) (ask 0xB2 0x00 0x00 0x01 [])
    ∷ at4442 commands.covers_less 0x07 (ask 0xB2 0x00 0x00 0x04 [])
    ∷ on commands.covers_less (shut Sle4428) mem4428 (ask 0xB2 0x03 0xF8 0x01 [])
    ∷ []

-- ---- the table of cards, line by line: kind and image bytes, select type, chip page
abbrev pub kind_rows : List Witness
kind_rows =
    by_insertion (downs.drops_kind 1) removed 1 (replicate 128 0xFF)
    ∷ by_insertion (downs.drops_kind 2) removed 2 (replicate 256 0xFF)
    ∷ by_insertion (downs.drops_kind 3) removed 3 (replicate 512 0xFF)
    ∷ by_insertion (downs.drops_kind 4) removed 4 (replicate 1024 0xFF)
    ∷ by_insertion (downs.drops_kind 5) removed 5 (replicate 2048 0xFF)
    ∷ by_insertion (downs.drops_kind 6) removed 6 (replicate 4096 0xFF)
    ∷ by_insertion (downs.drops_kind 7) removed 7 (replicate 8192 0xFF)
    ∷ by_insertion (downs.drops_kind 8) removed 8 (replicate 16384 0xFF)
    ∷ by_insertion (downs.drops_kind 9) removed 9 (replicate 32768 0xFF)
    ∷ by_insertion (downs.drops_kind 10) removed 10 (replicate 65536 0xFF)
    ∷ by_insertion (downs.drops_kind 11) removed 11 (replicate 131072 0xFF)
    ∷ by_insertion (downs.drops_kind 20) removed 20 mem4428
    ∷ by_insertion (downs.drops_kind 21) removed 21 image4418
    ∷ by_insertion (downs.drops_kind 30) removed 30 mem4442
    ∷ by_insertion (downs.drops_kind 31) removed 31 image4432
    ∷ by_command (steps.other_select 1 0x02) I2c1 8 (select 0x01)
    ∷ by_command (steps.other_select 2 0x02) I2c2 8 (select 0x01)
    ∷ by_command (steps.other_select 3 0x02) I2c4 8 (select 0x01)
    ∷ by_command (steps.other_select 4 0x02) I2c8 8 (select 0x01)
    ∷ by_command (steps.other_select 5 0x02) I2c16 8 (select 0x01)
    ∷ by_command (steps.other_select 6 0x01) I2c32 8 (select 0x02)
    ∷ by_command (steps.other_select 7 0x01) I2c64 8 (select 0x02)
    ∷ by_command (steps.other_select 8 0x01) I2c128 8 (select 0x02)
    ∷ by_command (steps.other_select 9 0x01) I2c256 8 (select 0x02)
    ∷ by_command (steps.other_select 10 0x01) I2c512 8 (select 0x02)
    ∷ by_command (steps.other_select 11 0x01) I2c1024 8 (select 0x02)
    ∷ on (commanding (steps.other_select 20 0x06)) (bare Sle4428) mem4428 (select 0x05)
    ∷ on (commanding (steps.other_select 21 0x06)) (bare Sle4418) image4418 (select 0x05)
    ∷ on (commanding (steps.other_select 30 0x05)) (bare Sle4442) mem4442 (select 0x06)
    ∷ on (commanding (steps.other_select 31 0x05)) (bare Sle4432) image4432 (select 0x06)
    ∷ by_command (commands.doubles_chip 1) I2c1 128 (ask 0xD0 0x00 0x00 0x09 (replicate 8 0x00 ++ (0x01 ∷ [])))
    ∷ by_command (commands.doubles_chip 2) I2c2 128 (ask 0xD0 0x00 0x00 0x09 (replicate 8 0x00 ++ (0x01 ∷ [])))
    ∷ by_command (commands.doubles_chip 3) I2c4 128 (ask 0xD0 0x00 0x00 0x11 (replicate 16 0x00 ++ (0x01 ∷ [])))
    ∷ by_command (commands.doubles_chip 4) I2c8 128 (ask 0xD0 0x00 0x00 0x11 (replicate 16 0x00 ++ (0x01 ∷ [])))
    ∷ by_command (commands.doubles_chip 5) I2c16 128 (ask 0xD0 0x00 0x00 0x11 (replicate 16 0x00 ++ (0x01 ∷ [])))
    ∷ by_command (commands.doubles_chip 6) I2c32 128 (ask 0xD0 0x00 0x00 0x21 (replicate 32 0x00 ++ (0x01 ∷ [])))
    ∷ by_command (commands.doubles_chip 7) I2c64 128 (ask 0xD0 0x00 0x00 0x21 (replicate 32 0x00 ++ (0x01 ∷ [])))
    ∷ by_command (commands.doubles_chip 8) I2c128 128 (ask 0xD0 0x00 0x00 0x41 (replicate 64 0x00 ++ (0x01 ∷ [])))
    ∷ by_command (commands.doubles_chip 9) I2c256 128 (ask 0xD0 0x00 0x00 0x41 (replicate 64 0x00 ++ (0x01 ∷ [])))
    ∷ []
