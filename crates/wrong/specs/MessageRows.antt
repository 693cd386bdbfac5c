-- The table of wrong readers, first part: whole readers, what is turned down, insertion and removal, answers, faults, power.
use Rattle.std.specs.Prelude.{true, List, [], ◌∷◌, ◌++◌, replicate, take, set}
use Rattle.chips.specs.declared.Chip.TheVariants.{I2c1, Sle4428, Sle4442}
use Rattle.slot.specs.Slots.{removed, powered, selecting, page_as, paged, opened}
use Rattle.vectors.specs.Sessions.{recounted, fresh, image4442, image4428, transfer, wrong4442, right4442}
use Rattle.promise.specs.Visits.{select, read_counter}
use Rattle.wrong.specs.Wrong.{one_by_one}
use Rattle.wrong.specs.Caught.{Witness, by_message, by_insertion, by_removal}
use Rattle.wrong.specs.Inputs.{bare, shut, wide, mem4442, mem4428, kept4442, mem_i2c, plain, ask, sixteen, on, at4442, run4442}
use Rattle.wrong.specs.WrongReaders as readers
use Rattle.wrong.specs.WrongDowns as downs
use Rattle.wrong.specs.WrongAnswers as answers
use Rattle.wrong.specs.WrongFaults as faults

-- ---- the five useless readers
abbrev pub useless_rows : List Witness
useless_rows =
    at4442 readers.turns_all_down 0x07 (plain 0x65)
    ∷ run4442 (one_by_one readers.sends_fixed) (plain 0x65 ∷ set (plain 0x65) 6 0x01 ∷ [])
    ∷ at4442 readers.touches_nothing 0x07 wrong4442
    ∷ run4442 (one_by_one readers.charges_first) (wrong4442 ∷ wrong4442 ∷ [])
    ∷ on readers.stores_first (wide Sle4442) mem4442 (ask 0xD0 0x00 0x40 0x02 (0x01 ∷ 0x02 ∷ []))
    ∷ on readers.stores_first (shut I2c1) mem_i2c (ask 0xD0 0x00 0x00 0x02 (0x01 ∷ 0x02 ∷ []))
    ∷ at4442 readers.invents_answer 0x07 wrong4442
    ∷ at4442 readers.invents_read 0x03 read_counter
    ∷ at4442 readers.invents_image 0x07 wrong4442
    ∷ []

-- ---- the six traps
abbrev pub trap_rows : List Witness
trap_rows =
    run4442 readers.resends (wrong4442 ∷ right4442 ∷ [])
    ∷ at4442 readers.compares_first 0x00 right4442
    ∷ at4442 readers.believes_smaller 0x07 (wrong4442 ++ (0x00 ∷ []))
    ∷ at4442 readers.says6983 0x00 right4442
    ∷ on readers.packs_high_first (shut Sle4442) kept4442 (ask 0xB2 0x00 0x00 0x04 [])
    ∷ on readers.stays_open (wide Sle4442) mem4442 wrong4442
    ∷ []

-- ---- the inspector's builds, and their kin
abbrev pub build_rows : List Witness
build_rows =
    run4442 readers.folds (wrong4442 ∷ wrong4442 ∷ [])
    ∷ run4442 readers.folds_bodies (wrong4442 ∷ set wrong4442 6 0x01 ∷ [])
    ∷ run4442 (readers.equal_free []) (wrong4442 ∷ set wrong4442 6 0x01 ∷ [])
    ∷ at4442 readers.does_twice 0x07 wrong4442
    ∷ at4442 readers.does_twice_quietly 0x07 wrong4442
    ∷ on readers.comes_round (shut I2c1) mem_i2c (ask 0xD0 0x00 0x00 0x10 sixteen)
    ∷ []

-- ---- turned down: numbers 1 to 4, their order, what is left
abbrev pub down_rows : List Witness
down_rows =
    by_message downs.takes270 (recounted mem4442 (shut Sle4442)) mem4442 (plain 0x65) 270
    ∷ by_message downs.refuses271 (recounted mem4442 (shut Sle4442)) mem4442 (plain 0x65) 271
    ∷ by_message downs.any_buffer (recounted mem4442 (shut Sle4442)) mem4442 (plain 0x65) 0
    ∷ at4442 downs.takes_nine 0x07 (take 9 (plain 0x65))
    ∷ at4442 downs.refuses_ten 0x07 (plain 0x65)
    ∷ on downs.any_length (shut Sle4442) (mem4442 ++ (0x00 ∷ [])) (plain 0x65)
    ∷ on downs.any_length (shut Sle4442) (take 263 mem4442) (plain 0x65)
    ∷ at4442 downs.any_counter 0x08 (plain 0x65)
    ∷ on downs.any_own_bit (shut Sle4428) (set mem4428 1151 0xDF) (plain 0x65)
    ∷ on downs.looks_at_nothing removed (0x00 ∷ []) (plain 0x65)
    ∷ on downs.any_page (paged 24 (shut Sle4442)) mem4442 (plain 0x65)
    ∷ on downs.empty_active (powered true removed) [] (plain 0x65)
    ∷ on downs.empty_paged (page_as 16 removed) [] (plain 0x65)
    ∷ on downs.idle_typed (selecting 0x06 (fresh Sle4442)) mem4442 (plain 0x65)
    ∷ on downs.idle_open (opened (selecting 0x06 (fresh Sle4442))) mem4442 (plain 0x65)
    ∷ on downs.other_type (selecting 0x05 (bare Sle4442)) mem4442 (plain 0x65)
    ∷ on downs.open_plain (wide I2c1) mem_i2c (plain 0x65)
    ∷ on downs.open_untyped (opened (bare Sle4442)) mem4442 (plain 0x65)
    ∷ on downs.open_spent (wide Sle4442) (image4442 0x03) (plain 0x65)
    ∷ on downs.open_before (wide Sle4428) (set (image4428 0x7F) 0x3FC 0xFF) (plain 0x65)
    ∷ by_message downs.message_first (recounted mem4442 (shut Sle4442)) mem4442 [] 0
    ∷ at4442 downs.image_first 0x08 []
    ∷ on downs.record_first (paged 24 (shut Sle4442)) (image4442 0x08) (plain 0x65)
    ∷ by_message (downs.misnumbers 1) (recounted mem4442 (shut Sle4442)) mem4442 (plain 0x65) 0
    ∷ at4442 (downs.misnumbers 2) 0x07 []
    ∷ at4442 (downs.misnumbers 3) 0x08 (plain 0x65)
    ∷ on (downs.misnumbers 4) (paged 24 (shut Sle4442)) mem4442 (plain 0x65)
    ∷ at4442 downs.answers_down 0x07 []
    ∷ on downs.down_closes (wide Sle4442) mem4442 []
    ∷ on downs.mends_slot (paged 24 (shut Sle4442)) mem4442 (plain 0x65)
    ∷ at4442 downs.mends_image 0x08 (plain 0x65)
    ∷ []

-- ---- insertion
abbrev pub insertion_rows : List Witness
insertion_rows =
    by_insertion downs.replaces_card (shut I2c1) 30 mem4442
    ∷ by_insertion downs.refusal_ejects (shut I2c1) 30 mem4442
    ∷ by_insertion downs.occupied_as3 (shut I2c1) 30 mem4442
    ∷ by_insertion downs.kind_first (shut I2c1) 0 []
    ∷ by_insertion downs.vets_slot (paged 16 removed) 30 mem4442
    ∷ by_insertion downs.any_kind removed 255 mem_i2c
    ∷ by_insertion downs.inserts_any_length removed 1 (replicate 127 0x00)
    ∷ by_insertion downs.inserts_any_length removed 1 (replicate 129 0x00)
    ∷ by_insertion downs.inserts_any_counter removed 30 (image4442 0x08)
    ∷ by_insertion downs.inserts_any_own_bit removed 20 (set mem4428 1151 0xDF)
    ∷ by_insertion downs.insert_powers removed 30 mem4442
    ∷ by_insertion downs.insert_selects removed 30 mem4442
    ∷ by_insertion downs.insert_readies removed 30 mem4442
    ∷ by_insertion downs.insert_opens removed 30 mem4442
    ∷ by_insertion downs.insert_keeps_page (paged 16 removed) 1 mem_i2c
    ∷ by_insertion downs.insert_chip_page removed 3 (replicate 512 0xFF)
    ∷ by_insertion downs.insert_gives_all removed 30 (image4442 0x00)
    ∷ by_insertion downs.insert_erases removed 30 mem4442
    ∷ by_insertion downs.insert_answers removed 30 mem4442
    ∷ []

-- ---- removal
abbrev pub removal_rows : List Witness
removal_rows =
    by_removal downs.remove_keeps_card (shut Sle4442)
    ∷ by_removal downs.remove_keeps_active (shut Sle4442)
    ∷ by_removal downs.remove_keeps_type (shut Sle4442)
    ∷ by_removal downs.remove_keeps_page (paged 16 (shut I2c1))
    ∷ by_removal downs.remove_keeps_open (wide Sle4442)
    ∷ by_removal downs.remove_only_cards (paged 16 removed)
    ∷ []

-- ---- the header of an answer, and a failed message
abbrev pub answer_rows : List Witness
answer_rows =
    at4442 (answers.retypes 0x62) 0x07 (plain 0x62)
    ∷ at4442 (answers.retypes 0x63) 0x07 (plain 0x63)
    ∷ at4442 (answers.retypes 0x65) 0x07 (plain 0x65)
    ∷ at4442 (answers.retypes 0x6F) 0x07 wrong4442
    ∷ at4442 (answers.retypes 0x69) 0x07 (plain 0x69)
    ∷ at4442 answers.length_high_first 0x07 (plain 0x62)
    ∷ at4442 answers.length_whole 0x07 (plain 0x65)
    ∷ at4442 answers.drops_slot 0x07 (set (plain 0x65) 5 0x01)
    ∷ at4442 answers.drops_seq 0x07 (set (plain 0x65) 6 0x07)
    ∷ at4442 answers.next_seq 0x07 (plain 0x65)
    ∷ at4442 answers.drops_forty 0x07 (set (plain 0x65) 5 0x01)
    ∷ at4442 answers.state_before 0x07 (plain 0x63)
    ∷ at4442 answers.state_turned 0x07 (plain 0x65)
    ∷ on answers.absent_inactive removed [] (plain 0x65)
    ∷ at4442 answers.own_state 0x07 (set (plain 0x65) 5 0x01)
    ∷ at4442 answers.refused_fails 0x07 (ask 0xD0 0x00 0x40 0x01 (0x05 ∷ []))
    ∷ at4442 (answers.misnames 0x00) 0x07 (plain 0x69)
    ∷ at4442 (answers.misnames 0x01) 0x07 (set (plain 0x65) 1 0x01)
    ∷ at4442 (answers.misnames 0x05) 0x07 (set (plain 0x65) 5 0x01)
    ∷ at4442 (answers.misnames 0x07) 0x07 (set (plain 0x62) 7 0x04)
    ∷ at4442 (answers.misnames 0x08) 0x07 (set wrong4442 8 0x01)
    ∷ on (answers.misnames 0xFE) removed [] (plain 0x62)
    ∷ at4442 answers.names_success 0x07 (plain 0x65)
    ∷ on answers.clock_in80 (fresh Sle4442) mem4442 wrong4442
    ∷ on answers.clock_runs (fresh Sle4442) mem4442 (plain 0x65)
    ∷ at4442 answers.clock_stands 0x07 (plain 0x65)
    ∷ at4442 answers.clock_of_own 0x07 (set (plain 0x65) 5 0x01)
    ∷ at4442 answers.clock_before 0x07 (plain 0x63)
    ∷ on answers.clock_unknown removed [] (plain 0x65)
    ∷ at4442 answers.pads_answer 0x07 (plain 0x65)
    ∷ at4442 answers.cuts_answer 0x07 wrong4442
    ∷ at4442 answers.fails_with_data 0x07 (set wrong4442 8 0x01)
    ∷ at4442 answers.failure_powers_off 0x07 (set (plain 0x62) 7 0x04)
    ∷ at4442 answers.failure_charges 0x07 (wrong4442 ++ (0x00 ∷ []))
    ∷ []

-- ---- faults 1 to 5, and their order
abbrev pub fault_rows : List Witness
fault_rows =
    at4442 (faults.takes_type 0x69) 0x07 (plain 0x69)
    ∷ at4442 (faults.drops_type 0x62) 0x07 (plain 0x62)
    ∷ at4442 (faults.drops_type 0x63) 0x07 (plain 0x63)
    ∷ at4442 (faults.drops_type 0x65) 0x07 (plain 0x65)
    ∷ at4442 (faults.drops_type 0x6F) 0x07 wrong4442
    ∷ at4442 faults.believes_larger 0x07 (set wrong4442 1 0x09)
    ∷ at4442 faults.low_byte_alone 0x07 (set wrong4442 2 0x01)
    ∷ at4442 faults.reads_high_first 0x07 wrong4442
    ∷ at4442 faults.takes262 0x07 (transfer (replicate 262 0))
    ∷ at4442 faults.refuses261 0x07 (transfer (replicate 261 0))
    ∷ at4442 (faults.passes_data 0x62) 0x07 (set (plain 0x62) 1 0x01 ++ (0x00 ∷ []))
    ∷ at4442 (faults.passes_data 0x63) 0x07 (set (plain 0x63) 1 0x01 ++ (0x00 ∷ []))
    ∷ at4442 (faults.passes_data 0x65) 0x07 (set (plain 0x65) 1 0x01 ++ (0x00 ∷ []))
    ∷ at4442 faults.any_slot 0x07 (set wrong4442 5 0x01)
    ∷ at4442 faults.slot_at_two 0x07 (set (plain 0x62) 5 0x01)
    ∷ at4442 (faults.takes_power 0x04) 0x07 (set (plain 0x62) 7 0x04)
    ∷ at4442 (faults.refuses_power 0x00) 0x07 (set (plain 0x62) 7 0x00)
    ∷ at4442 (faults.refuses_power 0x01) 0x07 (set (plain 0x62) 7 0x01)
    ∷ at4442 (faults.refuses_power 0x02) 0x07 (set (plain 0x62) 7 0x02)
    ∷ at4442 (faults.refuses_power 0x03) 0x07 (set (plain 0x62) 7 0x03)
    ∷ at4442 faults.any_power 0x07 (set (plain 0x62) 7 0xFF)
    ∷ at4442 (faults.power_in 0x63) 0x07 (set (plain 0x63) 7 0x04)
    ∷ at4442 (faults.power_in 0x6F) 0x07 (set wrong4442 7 0x04)
    ∷ at4442 faults.high_level_alone 0x07 (set wrong4442 8 0x01)
    ∷ at4442 faults.low_level_alone 0x07 (set wrong4442 9 0x01)
    ∷ at4442 (faults.level_in 0x62) 0x07 (set (plain 0x62) 8 0x01)
    ∷ at4442 (faults.level_in 0x65) 0x07 (set (plain 0x65) 9 0x01)
    ∷ on faults.powers_nothing removed [] (plain 0x62)
    ∷ on faults.powers_active (fresh Sle4442) mem4442 (plain 0x62)
    ∷ at4442 faults.powers_once 0x07 (plain 0x62)
    ∷ on faults.transfers_idle (fresh Sle4442) mem4442 (ask 0xA4 0x00 0x00 0x01 (0x06 ∷ []))
    ∷ on faults.transfer_wakes (fresh Sle4442) mem4442 (ask 0xA4 0x00 0x00 0x01 (0x06 ∷ []))
    ∷ on (faults.needs_card 0x63) removed [] (plain 0x63)
    ∷ on (faults.needs_card 0x65) removed [] (plain 0x65)
    ∷ at4442 faults.length_before_type 0x07 (set (plain 0x69) 1 0x01)
    ∷ at4442 faults.slot_before_length 0x07 (set (set (plain 0x65) 1 0x01) 5 0x01)
    ∷ at4442 faults.header_before_slot 0x07 (set (set (plain 0x62) 5 0x01) 7 0x04)
    ∷ on faults.card_before_header removed [] (set (plain 0x62) 7 0x04)
    ∷ []

-- ---- power on, power off, slot status
abbrev pub power_rows : List Witness
power_rows =
    at4442 faults.on_keeps_type 0x07 (plain 0x62)
    ∷ on faults.on_keeps_open (wide Sle4442) mem4442 (plain 0x62)
    ∷ on faults.on_resets_page (paged 16 (shut I2c1)) mem_i2c (plain 0x62)
    ∷ on faults.on_stays_idle (fresh Sle4442) mem4442 (plain 0x62)
    ∷ at4442 faults.reset_bare 0x07 (plain 0x62)
    ∷ on faults.reset_full (shut I2c1) mem_i2c (plain 0x62)
    ∷ at4442 faults.reset_short 0x07 (plain 0x62)
    ∷ at4442 faults.off_keeps_type 0x07 (plain 0x63)
    ∷ on faults.off_keeps_open (wide Sle4442) mem4442 (plain 0x63)
    ∷ on faults.off_resets_page (paged 16 (shut I2c1)) mem_i2c (plain 0x63)
    ∷ at4442 (faults.takes_type 0x63) 0x07 (plain 0x63)
    ∷ on faults.status_closes (wide Sle4442) mem4442 (plain 0x65)
    ∷ at4442 (faults.gives_try 0x62) 0x06 (plain 0x62)
    ∷ run4442 (one_by_one (faults.gives_try 0x63)) (wrong4442 ∷ plain 0x63 ∷ plain 0x62 ∷ select 0x06 ∷ wrong4442 ∷ [])
    ∷ at4442 (faults.gives_all 0x62) 0x00 (plain 0x62)
    ∷ at4442 (faults.gives_all 0x63) 0x00 (plain 0x63)
    ∷ []
