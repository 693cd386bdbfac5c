-- The words of the witnesses: slots, images, messages, rows.
use Rattle.std.specs.Prelude.{ℕ, true, List, [], ◌∷◌, replicate, set}
use Rattle.words.specs.Bounds.{least_room}
use Rattle.chips.specs.declared.Chip.{Chip}
use Rattle.chips.specs.declared.Chip.TheVariants.{Sle4442}
use Rattle.slot.specs.declared.Slot.{Slot}
use Rattle.slot.specs.Slots.{powered, opened}
use Rattle.vectors.specs.Sessions.{recounted, fresh, selected_slot, image4442, image4428, transfer}
use Rattle.vectors.specs.Plain.{image4418, image4432}
use Rattle.wrong.specs.Wrong.{Reader, Runner}
use Rattle.wrong.specs.Caught.{Witness, by_message, by_run}

-- ---- slots and images
-- a card that is active with no type
abbrev pub bare : Chip → Slot
bare chip = powered true (fresh chip)

-- one with its type selected, closed; and open
abbrev pub shut : Chip → Slot
shut chip = selected_slot chip

abbrev pub wide : Chip → Slot
wide chip = opened (selected_slot chip)

-- the SLE4442 and the SLE4428 of the starred sessions with full counters; each kind with protection bits with its byte 1 protected; an I2C card
-- that is all FFh
abbrev pub mem4442 : List ℕ
mem4442 = image4442 0x07

abbrev pub mem4428 : List ℕ
mem4428 = image4428 0xFF

abbrev pub kept4442 : List ℕ
kept4442 = set mem4442 256 0xFD

abbrev pub kept4428 : List ℕ
kept4428 = set mem4428 1024 0xFD

abbrev pub kept4418 : List ℕ
kept4418 = set image4418 1024 0xFD

abbrev pub kept4432 : List ℕ
kept4432 = set image4432 256 0xFD

abbrev pub mem_i2c : List ℕ
mem_i2c = replicate 128 0xFF

-- ---- messages, to slot 0 with bSeq 0
-- a type with no data
abbrev pub plain : ℕ → List ℕ
plain type = type ∷ replicate 9 0

-- a transfer of INS, P1, P2, P3 and data
abbrev pub ask : ℕ → ℕ → ℕ → ℕ → List ℕ → List ℕ
ask ins p1 p2 p3 body = transfer (0xFF ∷ ins ∷ p1 ∷ p2 ∷ p3 ∷ body)

abbrev pub sixteen : List ℕ
sixteen = 0 ∷ 1 ∷ 2 ∷ 3 ∷ 4 ∷ 5 ∷ 6 ∷ 7 ∷ 8 ∷ 9 ∷ 10 ∷ 11 ∷ 12 ∷ 13 ∷ 14 ∷ 15 ∷ []

-- ---- rows
-- one message with the smallest answer buffer, to a slot with the counts of the image; one on the closed SLE4442 with this counter; a run on it
-- with a full counter
abbrev pub on : Reader → Slot → List ℕ → List ℕ → Witness
on w s image m = by_message w (recounted image s) image m least_room

abbrev pub at4442 : Reader → ℕ → List ℕ → Witness
at4442 w counter m = on w (shut Sle4442) (image4442 counter) m

abbrev pub run4442 : Runner → List (List ℕ) → Witness
run4442 w ms = by_run w (recounted mem4442 (shut Sle4442)) mem4442 ms
