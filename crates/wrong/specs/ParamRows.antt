-- The table of wrong readers: the parameters.
use Rattle.std.specs.Prelude.{ℕ, ◌+◌, ◌*◌, List, [], ◌∷◌, ◌++◌, map, set}
use Rattle.chips.specs.declared.Chip.TheVariants.{Sle4442}
use Rattle.sets.specs.Sets.{set_with}
use Rattle.slot.specs.declared.Slot.{Slot}
use Rattle.slot.specs.Slots.{removed, set_as}
use Rattle.vectors.specs.Sessions.{fresh, wrong4442}
use Rattle.vectors.specs.Parameters.{setting}
use Rattle.promise.specs.Visits.{select}
use Rattle.wrong.specs.Caught.{Witness, by_insertion, by_removal}
use Rattle.wrong.specs.Inputs.{shut, mem4442, plain, on, at4442}
use Rattle.wrong.specs.WrongAnswers as answers
use Rattle.wrong.specs.WrongFaults as faults
use Rattle.wrong.specs.WrongParams as params

-- a good set of each protocol, and the card with a set stored
abbrev pub good0 : List ℕ
good0 = 0x95 ∷ 0x00 ∷ 0x02 ∷ 0x0A ∷ 0x01 ∷ []

abbrev pub good1 : List ℕ
good1 = 0x95 ∷ 0x10 ∷ 0x02 ∷ 0x4D ∷ 0x01 ∷ 0x20 ∷ 0x00 ∷ []

abbrev pub stored : ℕ → List ℕ → Slot
stored protocol bytes = set_as (set_with protocol bytes) (shut Sle4442)

-- ---- the parameters
abbrev pub param_rows : List Witness
param_rows =
    at4442 params.any_protocol 0x07 (setting 1 good0)
    ∷ at4442 params.any_protocol 0x07 (setting 0 good1)
    ∷ at4442 params.any_protocol 0x07 (setting 2 good0)
    ∷ at4442 params.any_protocol 0x07 (setting 0x80 good1)
    ∷ at4442 params.protocol_as_length 0x07 (setting 1 good0)
    ∷ at4442 params.refuses_t1 0x07 (setting 1 good1)
    ∷ at4442 params.takes_six 0x07 (setting 0 (good0 ++ (0x00 ∷ [])))
    ∷ at4442 (faults.passes_data 0x6C) 0x07 (set (plain 0x6C) 1 0x01 ++ (0x00 ∷ []))
    ∷ at4442 (faults.passes_data 0x6D) 0x07 (set (plain 0x6D) 1 0x01 ++ (0x00 ∷ []))
    ∷ at4442 (faults.drops_type 0x61) 0x07 (setting 0 good0)
    ∷ at4442 (faults.drops_type 0x6C) 0x07 (plain 0x6C)
    ∷ at4442 (faults.drops_type 0x6D) 0x07 (plain 0x6D)
    ∷ at4442 params.turns_factors 0x07 (setting 0 (set good0 0 0x01))
    ∷ at4442 params.turns_factors 0x07 (setting 0 (set good0 0 0x1A))
    ∷ at4442 params.five_bits 0x07 (setting 0 (set good0 1 0x04))
    ∷ at4442 params.five_bits 0x07 (setting 1 (set good1 1 0x14))
    ∷ at4442 params.eight_bits 0x07 (setting 0 (set good0 1 0x03))
    ∷ at4442 params.eight_bits 0x07 (setting 1 (set good1 1 0x13))
    ∷ at4442 params.either_checksum 0x07 (setting 1 (set good1 1 0x00))
    ∷ at4442 params.takes_bwi10 0x07 (setting 1 (set good1 3 0xA0))
    ∷ at4442 params.refuses_bwi9 0x07 (setting 1 (set good1 3 0x9F))
    ∷ at4442 params.lower_bwi 0x07 (setting 1 (set good1 3 0x1F))
    ∷ at4442 params.bwi_in_t0 0x07 (setting 0 (set good0 3 0xA0))
    ∷ at4442 params.takes_stop4 0x07 (setting 0 (set good0 4 0x04))
    ∷ at4442 params.refuses_stop3 0x07 (setting 1 (set good1 4 0x03))
    ∷ at4442 params.any_nad 0x07 (setting 1 (set good1 6 0x01))
    ∷ at4442 params.refuses_guard 0x07 (setting 0 (set good0 2 0xFF))
    ∷ at4442 params.refuses_ifsc 0x07 (setting 1 (set good1 5 0x00))
    ∷ at4442 params.last_byte_first 0x07 (setting 1 (set good0 0 0x71))
    ∷ at4442 params.last_byte_first 0x07 (setting 1 (set (set good1 0 0x71) 1 0x00))
    ∷ at4442 params.last_byte_first 0x07 (setting 1 (set (set good1 1 0x00) 3 0xA0))
    ∷ at4442 params.last_byte_first 0x07 (setting 1 (set (set good1 3 0xA0) 4 0x04))
    ∷ at4442 params.last_byte_first 0x07 (setting 1 (set (set good1 4 0x04) 6 0x01))
    ∷ at4442 faults.header_before_slot 0x07 (set (setting 0 (set good0 0 0x71)) 5 0x01)
    ∷ on faults.card_before_header removed [] (setting 0 (set good0 0 0x71))
    ∷ at4442 (answers.misnames 0x07) 0x07 (setting 1 good0)
    ∷ at4442 (answers.misnames 0x0A) 0x07 (setting 0 (set good0 0 0x71))
    ∷ at4442 (answers.misnames 0x0B) 0x07 (setting 0 (set good0 1 0x04))
    ∷ at4442 (answers.misnames 0x0D) 0x07 (setting 1 (set good1 3 0xA0))
    ∷ at4442 (answers.misnames 0x0E) 0x07 (setting 0 (set good0 4 0x04))
    ∷ at4442 (answers.misnames 0x10) 0x07 (setting 1 (set good1 6 0x01))
    ∷ on (params.cardless 0x61) removed [] (setting 0 good0)
    ∷ on (params.cardless 0x6C) removed [] (plain 0x6C)
    ∷ on (params.cardless 0x6D) removed [] (plain 0x6D)
    ∷ on (params.wants_active 0x61) (fresh Sle4442) mem4442 (setting 0 good0)
    ∷ on (params.wants_active 0x6C) (fresh Sle4442) mem4442 (plain 0x6C)
    ∷ on (params.wants_active 0x6D) (fresh Sle4442) mem4442 (plain 0x6D)
    ∷ at4442 (params.answers81 0x61) 0x07 (setting 0 good0)
    ∷ at4442 (params.answers81 0x6C) 0x07 (plain 0x6C)
    ∷ at4442 (params.answers81 0x6D) 0x07 (plain 0x6D)
    ∷ at4442 (params.failure81 0x61) 0x07 (setting 1 good0)
    ∷ on (params.failure81 0x6C) removed [] (plain 0x6C)
    ∷ on (params.failure81 0x6D) removed [] (plain 0x6D)
    ∷ on params.protocol_none (stored 1 good1) mem4442 (plain 0x6C)
    ∷ on params.clock_in82 (fresh Sle4442) mem4442 (plain 0x6C)
    ∷ at4442 params.protocol_before 0x07 (setting 1 good1)
    ∷ on params.failure_protocol (stored 1 good1) mem4442 (set (plain 0x6C) 5 0x01)
    ∷ at4442 params.failure_tells 0x07 (setting 1 good0)
    ∷ at4442 (params.tells_old 0x61) 0x07 (setting 0 good0)
    ∷ on (params.tells_old 0x6D) (stored 1 good1) mem4442 (plain 0x6D)
    ∷ at4442 (params.tells_none 0x61) 0x07 (setting 0 good0)
    ∷ at4442 (params.tells_none 0x6C) 0x07 (plain 0x6C)
    ∷ at4442 (params.tells_none 0x6D) 0x07 (plain 0x6D)
    ∷ at4442 params.tells_seven 0x07 (plain 0x6C)
    ∷ on params.tells_five (stored 1 good1) mem4442 (plain 0x6C)
    ∷ at4442 params.stores_faulty 0x07 (setting 0 (set good0 4 0x04))
    ∷ at4442 (params.keeps_set 0x61) 0x07 (setting 1 good1)
    ∷ on (params.keeps_set 0x62) (stored 1 good1) mem4442 (plain 0x62)
    ∷ on (params.keeps_set 0x6D) (stored 1 good1) mem4442 (plain 0x6D)
    ∷ on (params.brings_default 0x63) (stored 1 good1) mem4442 (plain 0x63)
    ∷ on (params.brings_default 0x65) (stored 1 good1) mem4442 (plain 0x65)
    ∷ on (params.brings_default 0x6C) (stored 1 good1) mem4442 (plain 0x6C)
    ∷ on (params.brings_default 0x6F) (stored 1 good1) mem4442 wrong4442
    ∷ on params.failure_resets (stored 1 good1) mem4442 (set (plain 0x65) 5 0x01)
    ∷ on params.select_resets (stored 1 good1) mem4442 (select 0x06)
    ∷ at4442 params.set_powers_off 0x07 (setting 0 good0)
    ∷ by_insertion params.insert_keeps_set (set_as (set_with 1 good1) removed) 30 mem4442
    ∷ by_removal params.remove_keeps_set (stored 1 good1)
    ∷ on params.any_set (stored 2 good1) mem4442 (plain 0x65)
    ∷ on params.any_set (stored 0 (set good1 1 0x00)) mem4442 (plain 0x65)
    ∷ on params.any_set (stored 0 (good0 ++ (0x00 ∷ 0x01 ∷ []))) mem4442 (plain 0x65)
    ∷ on params.any_set (stored 0 (set good0 0 0x71)) mem4442 (plain 0x65)
    ∷ on params.any_set (stored 0 (set good0 0 0x17)) mem4442 (plain 0x65)
    ∷ on params.any_set (stored 0 (set good0 1 0x04)) mem4442 (plain 0x65)
    ∷ on params.any_set (stored 1 (set good1 1 0x14)) mem4442 (plain 0x65)
    ∷ on params.any_set (stored 1 (set good1 3 0xA0)) mem4442 (plain 0x65)
    ∷ on params.any_set (stored 0 (set good0 4 0x04)) mem4442 (plain 0x65)
    ∷ on params.any_set (stored 1 (set good1 6 0x01)) mem4442 (plain 0x65)
    ∷ on params.tail_unseen (stored 0 (set good1 1 0x00)) mem4442 (plain 0x65)
    ∷ on params.tail_unseen (stored 0 (good0 ++ (0x00 ∷ 0x01 ∷ []))) mem4442 (plain 0x65)
    ∷ on params.empty_set (set_as (set_with 0 good0) removed) [] (plain 0x65)
    ∷ on params.empty_set (set_as (set_with 1 good1) removed) [] (plain 0x65)
    ∷ on params.default_alone (stored 1 good1) mem4442 (plain 0x65)
    ∷ []

-- ---- every entry of the two tables: each reserved one let through, each other one taken for a reserved one
abbrev pub fi_rows : List Witness
fi_rows = map (λ (i : ℕ). at4442 (params.takes_fi i) 0x07 (setting 0 (set good0 0 (i * 16 + 1)))) (7 ∷ 8 ∷ 14 ∷ 15 ∷ [])

abbrev pub di_rows : List Witness
di_rows = map (λ (i : ℕ). at4442 (params.takes_di i) 0x07 (setting 0 (set good0 0 (0x10 + i)))) (0 ∷ 7 ∷ 10 ∷ 11 ∷ 12 ∷ 13 ∷ 14 ∷ 15 ∷ [])

abbrev pub free_fi : List ℕ
free_fi = 0 ∷ 1 ∷ 2 ∷ 3 ∷ 4 ∷ 5 ∷ 6 ∷ 9 ∷ 10 ∷ 11 ∷ 12 ∷ 13 ∷ []

abbrev pub good_fi_rows : List Witness
good_fi_rows = map (λ (i : ℕ). at4442 (params.refuses_fi i) 0x07 (setting 0 (set good0 0 (i * 16 + 1)))) free_fi

abbrev pub good_di_rows : List Witness
good_di_rows = map (λ (i : ℕ). at4442 (params.refuses_di i) 0x07 (setting 0 (set good0 0 (0x10 + i)))) (1 ∷ 2 ∷ 3 ∷ 4 ∷ 5 ∷ 6 ∷ 8 ∷ 9 ∷ [])
