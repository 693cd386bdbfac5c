-- The table of wrong readers, sixth part: the counts of the slot record.
use Rattle.std.specs.Prelude.{ℕ, ◌+◌, ◌-◌, List, [], ◌∷◌, ◌++◌, replicate, set}
use Rattle.words.specs.Bounds.{least_room}
use Rattle.chips.specs.declared.Chip.TheVariants.{I2c1, I2c256, Sle4428, Sle4418, Sle4442, Sle4432}
use Rattle.slot.specs.declared.Slot.{Slot}
use Rattle.slot.specs.Slots.{removed, tries_as, protected_as}
use Rattle.vectors.specs.Sessions.{recounted, fresh, image4442, image4428, wrong4442, right4442}
use Rattle.vectors.specs.Plain.{guarded4418, image4418, image4432}
use Rattle.vectors.specs.Parameters.{setting}
use Rattle.promise.specs.Visits.{select, wrong4428, right4428}
use Rattle.wrong.specs.Wrong.{Reader}
use Rattle.wrong.specs.Caught.{Witness, by_message, by_insertion, by_removal}
use Rattle.wrong.specs.Inputs.{shut, wide, mem4442, mem4428, kept4442, kept4428, kept4418, kept4432, mem_i2c, plain, ask, on, at4442}
use Rattle.wrong.specs.ParamRows.{good1}
use Rattle.wrong.specs.WrongCounts as counts

-- ---- a record whose count is off
-- slot status, to a slot whose tries, or whose number of protected bytes, are these many more, or less, than the image's
abbrev pub status : Reader → Slot → List ℕ → Witness
status w s image = by_message w s image (plain 0x65) least_room

abbrev pub tries_more : Reader → Slot → List ℕ → Witness
tries_more w s image = let t = recounted image s in status w (tries_as (t.tries + 1) t) image

abbrev pub tries_less : Reader → Slot → List ℕ → Witness
tries_less w s image = let t = recounted image s in status w (tries_as (t.tries - 1) t) image

abbrev pub bytes_more : ℕ → Reader → Slot → List ℕ → Witness
bytes_more n w s image = let t = recounted image s in status w (protected_as (t.protected + n) t) image

abbrev pub bytes_less : Reader → Slot → List ℕ → Witness
bytes_less w s image = let t = recounted image s in status w (protected_as (t.protected - 1) t) image

-- a row of one of these on each kind with protection bits, byte 1 protected; on one of every sort, and with none
abbrev pub guarded_each : (Slot → List ℕ → Witness) → List Witness
guarded_each row = row (shut Sle4428) kept4428 ∷ row (shut Sle4418) kept4418 ∷ row (shut Sle4442) kept4442 ∷ row (shut Sle4432) kept4432 ∷ []

abbrev pub sort_each : (Slot → List ℕ → Witness) → List Witness
sort_each row = guarded_each row ++ (row (shut I2c1) mem_i2c ∷ row (shut I2c256) (replicate 32768 0xFF) ∷ row removed [] ∷ [])

-- the last protection byte of each with its first byte protected, too
abbrev pub last_kept : (Slot → List ℕ → Witness) → List Witness
last_kept row =
    row (shut Sle4428) (set mem4428 1151 0xFE)
    ∷ row (shut Sle4418) (set image4418 1151 0xFE)
    ∷ row (shut Sle4442) (set mem4442 259 0xFE)
    ∷ row (shut Sle4432) (set image4432 259 0xFE)
    ∷ []

-- ---- messages
-- D1 that carries the values of bytes 0 and 1, byte 1 being protected; and of byte 1 alone; on each kind with protection bits
abbrev pub protect_each : Reader → List ℕ → List ℕ → List Witness
protect_each w m28 m =
    on w (wide Sle4428) kept4428 m28 ∷ on w (shut Sle4418) kept4418 m ∷ on w (wide Sle4442) kept4442 m ∷ on w (shut Sle4432) kept4432 m ∷ []

abbrev pub both_protect : Reader → List Witness
both_protect w = protect_each w (ask 0xD1 0x00 0x00 0x02 (0x00 ∷ 0x00 ∷ [])) (ask 0xD1 0x00 0x00 0x02 (0xA2 ∷ 0x13 ∷ []))

abbrev pub again_protect : Reader → List Witness
again_protect w = protect_each w (ask 0xD1 0x00 0x01 0x01 (0x00 ∷ [])) (ask 0xD1 0x00 0x01 0x01 (0x13 ∷ []))

-- an SLE4418 with bytes 0 to 2FFh protected: 768
abbrev pub many4418 : List ℕ
many4418 = guarded4418 (replicate 96 0x00 ++ replicate 32 0xFF)

-- and one with bytes 1 to 255
abbrev pub kept255 : List ℕ
kept255 = guarded4418 ((0x01 ∷ replicate 31 0x00) ++ replicate 96 0xFF)

abbrev pub count_rows : List Witness
count_rows =
    sort_each (bytes_more 1 counts.asks_tries_alone)
    ++ guarded_each (bytes_less counts.asks_tries_alone)
    ++ sort_each (tries_more counts.asks_protected_alone)
    ++ (tries_less counts.asks_protected_alone (shut Sle4428) kept4428
    ∷ tries_less counts.asks_protected_alone (shut Sle4442) kept4442
    ∷ tries_less counts.takes_fewer_tries (shut Sle4442) kept4442
    ∷ tries_more counts.takes_more_tries (shut Sle4442) (image4442 0x05)
    ∷ [])
    ++ guarded_each (bytes_less counts.takes_fewer_protected)
    ++ guarded_each (bytes_more 1 counts.takes_more_protected)
    ++ (bytes_more 256 counts.compares_low_byte (shut Sle4428) kept4428
    ∷ bytes_more 256 counts.compares_low_byte (shut Sle4418) many4418
    ∷ tries_more counts.empty_uncounted removed []
    ∷ bytes_more 1 counts.empty_uncounted removed []
    ∷ tries_more counts.i2c_uncounted (shut I2c1) mem_i2c
    ∷ bytes_more 1 counts.i2c_uncounted (shut I2c1) mem_i2c
    ∷ tries_more counts.plain_uncounted (shut Sle4418) kept4418
    ∷ tries_more counts.plain_uncounted (shut Sle4432) kept4432
    ∷ on counts.asks_tries_3fd (shut Sle4418) image4418 (plain 0x65)
    ∷ [])
    ++ last_kept (λ s image. on counts.counts_short s image (plain 0x65))
    ++ (on counts.counts_long (shut Sle4442) mem4442 (plain 0x65)
    ∷ on counts.counts_long (shut Sle4432) image4432 (plain 0x65)
    ∷ [])
    ++ guarded_each (λ s image. on counts.counts_free s image (plain 0x65))
    ++ (on counts.counts_reach (shut Sle4428) (set mem4428 1151 0xBF) (plain 0x65) ∷ [])
    ++ guarded_each (λ s image. on counts.counts_by_eight s image (plain 0x65))
    ++ (at4442 counts.wrong_shows_before 0x07 wrong4442
    ∷ at4442 counts.wrong_shows_before 0x05 wrong4442
    ∷ at4442 counts.wrong_shows_before 0x01 wrong4442
    ∷ on counts.wrong_shows_before (shut Sle4428) mem4428 wrong4428
    ∷ on counts.wrong_shows_before (shut Sle4428) (image4428 0x80) wrong4428
    ∷ at4442 counts.wrong_shows_two_less 0x07 wrong4442
    ∷ on counts.wrong_shows_two_less (shut Sle4428) mem4428 wrong4428
    ∷ at4442 counts.wrong_shows_none 0x07 wrong4442
    ∷ on counts.wrong_shows_none (shut Sle4428) mem4428 wrong4428
    ∷ at4442 counts.full_at_no_try 0x00 right4442
    ∷ on counts.full_at_no_try (shut Sle4428) (image4428 0x00) right4428
    ∷ at4442 counts.right_shows_before 0x03 right4442
    ∷ on counts.right_shows_before (shut Sle4428) (image4428 0x7F) right4428
    ∷ on counts.right_shows_three (shut Sle4428) (image4428 0x7F) right4428
    ∷ at4442 counts.shows_counter 0x07 wrong4442
    ∷ on counts.shows_counter (shut Sle4428) mem4428 right4428
    ∷ [])
    ++ again_protect counts.counts_twice
    ++ both_protect counts.counts_twice
    ++ both_protect counts.counts_range
    ++ (on counts.counts_range (wide Sle4442) mem4442 (ask 0xD1 0x00 0x00 0x01 (0x00 ∷ [])) ∷ [])
    ++ again_protect counts.counts_one
    ++ both_protect counts.counts_none
    ++ (on counts.counts_anew (wide Sle4428) kept4428 (ask 0xD1 0x00 0x00 0x01 (0x00 ∷ []))
    ∷ on counts.counts_anew (shut Sle4432) kept4432 (ask 0xD1 0x00 0x00 0x01 (0xA2 ∷ []))
    ∷ [])
    ++ (on counts.counts_to255 (shut Sle4418) many4418 (plain 0x65)
    ∷ on counts.counts_to255 (shut Sle4418) kept255 (ask 0xD1 0x00 0x00 0x01 (0xA2 ∷ []))
    ∷ at4442 (counts.type_forgets 0x62) 0x07 (plain 0x62)
    ∷ on (counts.type_forgets 0x62) (shut Sle4418) kept4418 (plain 0x62)
    ∷ at4442 (counts.type_forgets 0x63) 0x07 (plain 0x63)
    ∷ on (counts.type_forgets 0x63) (shut Sle4418) kept4418 (plain 0x63)
    ∷ at4442 (counts.type_forgets 0x65) 0x07 (plain 0x65)
    ∷ at4442 (counts.type_forgets 0x61) 0x07 (setting 1 good1)
    ∷ at4442 (counts.type_forgets 0x6C) 0x07 (plain 0x6C)
    ∷ at4442 (counts.type_forgets 0x6D) 0x07 (plain 0x6D)
    ∷ at4442 (counts.command_forgets 0xA4) 0x07 (select 0x06)
    ∷ at4442 (counts.command_forgets 0xB0) 0x07 (ask 0xB0 0x00 0x00 0x01 [])
    ∷ at4442 (counts.command_forgets 0xB1) 0x07 (ask 0xB1 0x00 0x00 0x04 [])
    ∷ at4442 (counts.command_forgets 0xB2) 0x07 (ask 0xB2 0x00 0x00 0x04 [])
    ∷ on (counts.command_forgets 0xD0) (wide Sle4442) kept4442 (ask 0xD0 0x00 0x00 0x01 (0x05 ∷ []))
    ∷ on (counts.command_forgets 0xD2) (wide Sle4442) kept4442 (ask 0xD2 0x00 0x01 0x03 (0x44 ∷ 0x55 ∷ 0x66 ∷ []))
    ∷ on counts.change_shows_more (wide Sle4442) kept4442 (ask 0xD2 0x00 0x01 0x03 (0x44 ∷ 0x55 ∷ 0x66 ∷ []))
    ∷ on counts.write_counts (wide Sle4442) kept4442 (ask 0xD0 0x00 0x01 0x01 (0x05 ∷ []))
    ∷ on counts.write_counts (shut Sle4418) kept4418 (ask 0xD0 0x00 0x01 0x01 (0x05 ∷ []))
    ∷ at4442 counts.failure_shows_less 0x07 (set (plain 0x65) 5 0x01)
    ∷ tries_more counts.down_mends (shut Sle4442) mem4442
    ∷ bytes_more 1 counts.down_mends (shut Sle4418) kept4418
    ∷ by_insertion counts.insert_shows_none removed 30 kept4442
    ∷ by_insertion counts.insert_shows_none removed 21 kept4418
    ∷ by_insertion counts.insert_shows_all removed 30 (image4442 0x03)
    ∷ by_insertion counts.insert_shows_all removed 20 (image4428 0x7F)
    ∷ by_insertion counts.insert_keeps_counts removed 30 mem4442
    ∷ by_insertion counts.insert_keeps_counts (tries_as 3 (protected_as 1 removed)) 1 mem_i2c
    ∷ by_insertion counts.insert_shows_3fd removed 21 image4418
    ∷ by_insertion counts.insert_counts_short removed 20 (set mem4428 1151 0xFE)
    ∷ by_insertion counts.insert_counts_short removed 21 (set image4418 1151 0xFE)
    ∷ by_insertion counts.insert_counts_short removed 30 (set mem4442 259 0xFE)
    ∷ by_insertion counts.insert_counts_short removed 31 (set image4432 259 0xFE)
    ∷ by_insertion counts.insert_counts_free removed 30 kept4442
    ∷ by_insertion counts.insert_swaps removed 30 kept4442
    ∷ by_removal counts.remove_keeps_tries (recounted kept4442 (fresh Sle4442))
    ∷ by_removal counts.remove_keeps_protected (recounted kept4442 (fresh Sle4442))
    ∷ [])
