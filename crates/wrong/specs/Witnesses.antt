-- Every wrong reader with the input at which it is caught: one table. docs/PROMISES.md has it in words, under the same numbers.
use Rattle.std.specs.Prelude.{ℕ, List, [], ◌++◌, map, set}
use Rattle.words.specs.Bytes.{series}
use Rattle.chips.specs.declared.Chip.TheVariants.{I2c1}
use Rattle.bits.specs.Bits.{first_protected}
use Rattle.slot.specs.Slots.{removed}
use Rattle.reader.specs.Heard.{heard}
use Rattle.vectors.specs.Parameters.{setting}
use Rattle.vectors.specs.Sessions.{lent, recounted, selected_slot, image4442, image4428, transfer}
use Rattle.vectors.specs.Plain.{image4418, image4432}
use Rattle.wrong.specs.Caught.{Witness}
use Rattle.wrong.specs.WrongReaders.{remembering, answers_again, equal_free}
use Rattle.wrong.specs.WrongStores.{store_parts}
use Rattle.wrong.specs.WrongCounts.{count_parts}
use Rattle.wrong.specs.WrongCommands.{up_to_unequal, cut_from, backwards}
use Rattle.wrong.specs.Inputs.{shut, mem_i2c, plain, ask, on}
use Rattle.wrong.specs.MessageRows.{useless_rows, trap_rows, build_rows, down_rows, insertion_rows, removal_rows, answer_rows, fault_rows, power_rows}
use Rattle.wrong.specs.CommandRows.{step_order_rows, step_rows1to5, step_rows6, step_rows7, step_rows8to9, word_rows, command_rows, page_rows, code_rows, number_rows, kind_rows}
use Rattle.wrong.specs.ParamRows.{param_rows, fi_rows, di_rows, good_fi_rows, good_di_rows}
use Rattle.wrong.specs.PlainRows.{plain_rows, protected_rows}
use Rattle.wrong.specs.StoreRows.{store_rows}
use Rattle.wrong.specs.CountRows.{count_rows}
use Rattle.wrong.specs.LargeRows.{large_rows}
use Rattle.wrong.specs.PageRows.{default_rows}
use Rattle.wrong.specs.WrongFaults as faults
use Rattle.wrong.specs.WrongSteps as steps

-- ---- every other value: a row for each
-- n numbers from k on
abbrev pub from : ℕ → ℕ → List ℕ
from k n = series (λ (j : ℕ). j) k n

-- bSlot 1 to FFh, each taken for slot 0
abbrev pub slot_rows : List Witness
slot_rows = map (λ (n : ℕ). on (faults.takes_slot n) removed [] (set (plain 0x65) 5 n)) (from 1 255)

-- each type but 61h, 62h, 63h, 65h, 6Ch, 6Dh and 6Fh, taken for slot status
abbrev pub type_rows : List Witness
type_rows = map (λ (n : ℕ). on (faults.takes_type n) removed [] (plain n)) (from 0 0x61 ++ from 0x64 1 ++ from 0x66 6 ++ from 0x6E 1 ++ from 0x70 0x90)

-- bPowerSelect 4 to FFh, each taken
abbrev pub select_rows : List Witness
select_rows = map (λ (n : ℕ). on (faults.takes_power n) removed [] (set (plain 0x62) 7 n)) (from 4 252)

-- each INS but the nine, taken for B0
abbrev pub ins_rows : List Witness
ins_rows =
    map (λ (n : ℕ). on (steps.takes_ins n 0xB0) (shut I2c1) mem_i2c (ask n 0x00 0x00 0x01 []))
    (from 0 1 ++ from 0x02 30 ++ from 0x21 131 ++ from 0xA5 11 ++ from 0xB3 29 ++ from 0xD3 45)

-- ---- the table
unfoldable pub wrong_readers : List Witness
wrong_readers =
    useless_rows
    ++ trap_rows
    ++ build_rows
    ++ down_rows
    ++ insertion_rows
    ++ removal_rows
    ++ answer_rows
    ++ fault_rows
    ++ power_rows
    ++ param_rows
    ++ step_order_rows
    ++ step_rows1to5
    ++ step_rows6
    ++ step_rows7
    ++ step_rows8to9
    ++ word_rows
    ++ command_rows
    ++ page_rows
    ++ code_rows
    ++ number_rows
    ++ kind_rows
    ++ plain_rows
    ++ protected_rows
    ++ store_rows
    ++ count_rows
    ++ large_rows
    ++ default_rows
    ++ slot_rows
    ++ type_rows
    ++ select_rows
    ++ ins_rows
    ++ fi_rows
    ++ di_rows
    ++ good_fi_rows
    ++ good_di_rows

-- the table and its words at once, for what is proved by computing them
unfoldable pub witnesses : ℕ
unfolding lent recounted selected_slot image4442 image4428 image4418 image4432 transfer setting heard
    remembering answers_again equal_free store_parts count_parts first_protected up_to_unequal cut_from backwards wrong_readers
witnesses = 0
