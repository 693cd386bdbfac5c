-- "Sessions to try": the starred ones, as one table. Each row is a slot with its card, the messages sent, the whole answers expected,
-- and what is expected of the image and of the slot at the end.
use Rattle.std.specs.Prelude.{ℕ, ◌+◌, Bool, true, false, List, [], ◌∷◌, ◌++◌, map, length, replicate, take, drop}
use Rattle.std.specs.Bool.{beq}
use Rattle.words.specs.Choice.{◌⇒◌⁏◌, ◌and◌}
use Rattle.words.specs.Bytes.{same, four_bytes}
use Rattle.words.specs.Bounds.{least_room}
use Rattle.chips.specs.declared.Chip.{Chip}
use Rattle.chips.specs.declared.Chip.TheVariants.{I2c1, Sle4428, Sle4442}
use Rattle.chips.specs.Kinds.{facts}
use Rattle.slot.specs.declared.Slot.{Slot}
use Rattle.slot.specs.Slots.{inserted, powered, selecting, paged, tries_as, protected_as}
use Rattle.counts.specs.Counts.{tries_of, protected_of}
use Rattle.frame.specs.Exchange.{Outcome}
use Rattle.reader.specs.Runs.{Sent, run}

pub record Row : Type 0 where
  pub slot : Slot
  pub image : List ℕ
  pub messages : List (List ℕ)
  pub answers : List (List ℕ)
  -- the bytes that stand in the image at the end, from an address on
  pub address : ℕ
  pub bytes : List ℕ
  -- whether the slot is open at the end
  pub opened : Bool

-- ---- when a row holds
unfoldable pub same_answers : List Outcome → List (List ℕ) → Bool
same_answers [] [] = true
same_answers [] (a ∷ as') = false
same_answers (o ∷ os) [] = false
same_answers (o ∷ os) (a ∷ as') = same o.answer a and same_answers os as'

-- each message with the smallest answer buffer
unfoldable pub lent : List (List ℕ) → List Sent
lent ms = map (λ (m : List ℕ). record { message = m; room = least_room }) ms

-- a slot record with the counts of an image: the slots of the rows are written without them
unfoldable pub recounted : List ℕ → Slot → Slot
recounted image s = tries_as (tries_of s.holds image) (protected_as (protected_of s.holds image) s)

unfoldable pub holds : Row → Bool
holds w =
    let r = run (recounted w.image w.slot) w.image (lent w.messages) in
    same_answers r.outcomes w.answers
    and same (take (length w.bytes) (drop w.address r.image)) w.bytes
    and beq r.slot.«open» w.opened

-- the number of the first row that does not hold, the first row being number k; 0 where all hold
unfoldable pub failing : ℕ → List Row → ℕ
failing k [] = 0
failing k (w ∷ ws) = let later = failing (k + 1) ws in holds w ⇒ later ⁏ k

-- ---- the words of the table
-- a card put in; and one powered and with its type selected: closed, and with the page of its type
abbrev pub fresh : Chip → Slot
fresh chip = inserted chip 0 0

unfoldable pub selected_slot : Chip → Slot
selected_slot chip = selecting (facts chip).selects (powered true (fresh chip))

-- "an SLE4442 with memory A2 13 10 91 .., .. code 11 22 33", and an SLE4428 with code 11 22, each with a counter and nothing protected
unfoldable pub image4442 : ℕ → List ℕ
image4442 counter = 0xA2 ∷ 0x13 ∷ 0x10 ∷ 0x91 ∷ replicate 252 0 ++ replicate 4 0xFF ++ (counter ∷ 0x11 ∷ 0x22 ∷ 0x33 ∷ [])

unfoldable pub image4428 : ℕ → List ℕ
image4428 counter = replicate 1021 0 ++ (counter ∷ 0x11 ∷ 0x22 ∷ []) ++ replicate 128 0xFF

-- a transfer of data to slot 0 with bSeq 0; its answer when it succeeds, and when it fails
unfoldable pub transfer : List ℕ → List ℕ
transfer d = 0x6F ∷ four_bytes (length d) ++ (0 ∷ 0 ∷ 0 ∷ 0 ∷ 0 ∷ d)

unfoldable pub success : List ℕ → List ℕ
success d = 0x80 ∷ four_bytes (length d) ++ (0 ∷ 0 ∷ 0x00 ∷ 0x00 ∷ 0 ∷ d)

unfoldable pub failure : ℕ → List ℕ
failure b_error = 0x80 ∷ 0 ∷ 0 ∷ 0 ∷ 0 ∷ 0 ∷ 0 ∷ 0x40 ∷ b_error ∷ 0 ∷ []

abbrev pub wrong4442 : List ℕ
wrong4442 = transfer (0xFF ∷ 0x20 ∷ 0x00 ∷ 0x00 ∷ 0x03 ∷ 0x01 ∷ 0x02 ∷ 0x03 ∷ [])

abbrev pub right4442 : List ℕ
right4442 = transfer (0xFF ∷ 0x20 ∷ 0x00 ∷ 0x00 ∷ 0x03 ∷ 0x11 ∷ 0x22 ∷ 0x33 ∷ [])

-- a row on the SLE4442, and one on the SLE4428, with the counter before and after
unfoldable pub on4442 : ℕ → List (List ℕ) → List (List ℕ) → ℕ → Bool → Row
on4442 c sent got c' o = record { slot = selected_slot Sle4442; image = image4442 c; messages = sent; answers = got; address = 260; bytes = c' ∷ []; opened = o }

unfoldable pub on4428 : ℕ → List (List ℕ) → List (List ℕ) → ℕ → Bool → Row
on4428 c sent got c' o = record { slot = selected_slot Sle4428; image = image4428 c; messages = sent; answers = got; address = 0x3FD; bytes = c' ∷ []; opened = o }

-- ---- the table
unfoldable pub table : List Row
table =
    -- 1. 62 with bSeq 0: 80 06 00 00 00 00 00 00 00 00 3B 04 A2 13 10 91
    on4442 0x07
    ((0x62 ∷ 0 ∷ 0 ∷ 0 ∷ 0 ∷ 0 ∷ 0 ∷ 0 ∷ 0 ∷ 0 ∷ []) ∷ [])
    ((0x80 ∷ 0x06 ∷ 0 ∷ 0 ∷ 0 ∷ 0 ∷ 0 ∷ 0 ∷ 0 ∷ 0 ∷ 0x3B ∷ 0x04 ∷ 0xA2 ∷ 0x13 ∷ 0x10 ∷ 0x91 ∷ []) ∷ [])
    0x07 false
    -- 2. FF 20 00 00 03 01 02 03 thrice: 90 06, 90 04, 90 00; then the right code: 90 00, closed
    ∷ on4442 0x07
    (wrong4442 ∷ wrong4442 ∷ wrong4442 ∷ right4442 ∷ [])
    (success (0x90 ∷ 0x06 ∷ []) ∷ success (0x90 ∷ 0x04 ∷ []) ∷ success (0x90 ∷ 0x00 ∷ []) ∷ success (0x90 ∷ 0x00 ∷ []) ∷ [])
    0x00 false
    -- 3. wrong, wrong, right: 90 06, 90 04, 90 07
    ∷ on4442 0x07
    (wrong4442 ∷ wrong4442 ∷ right4442 ∷ [])
    (success (0x90 ∷ 0x06 ∷ []) ∷ success (0x90 ∷ 0x04 ∷ []) ∷ success (0x90 ∷ 0x07 ∷ []) ∷ [])
    0x07 true
    -- 4. counter 05h, wrong: 90 04
    ∷ on4442 0x05 (wrong4442 ∷ []) (success (0x90 ∷ 0x04 ∷ []) ∷ []) 0x04 false
    -- 5. 4428 counter FFh, wrong: 90 FE
    ∷ on4428 0xFF
    (transfer (0xFF ∷ 0x20 ∷ 0x00 ∷ 0x00 ∷ 0x02 ∷ 0x01 ∷ 0x02 ∷ []) ∷ [])
    (success (0x90 ∷ 0xFE ∷ []) ∷ [])
    0xFE false
    -- 6. write while closed: 69 82
    ∷ on4442 0x07
    (transfer (0xFF ∷ 0xD0 ∷ 0x00 ∷ 0x40 ∷ 0x01 ∷ 0x05 ∷ []) ∷ [])
    (success (0x69 ∷ 0x82 ∷ []) ∷ [])
    0x07 false
    -- 7. B0 at 00FFh length 1: 90 00; length 2: 6B 00
    ∷ on4442 0x07
    (transfer (0xFF ∷ 0xB0 ∷ 0x00 ∷ 0xFF ∷ 0x01 ∷ []) ∷ transfer (0xFF ∷ 0xB0 ∷ 0x00 ∷ 0xFF ∷ 0x02 ∷ []) ∷ [])
    (success (0x00 ∷ 0x90 ∷ 0x00 ∷ []) ∷ success (0x6B ∷ 0x00 ∷ []) ∷ [])
    0x07 false
    -- 8. FF B1 00 10 01 on a 4428: 67 00
    ∷ on4428 0xFF
    (transfer (0xFF ∷ 0xB1 ∷ 0x00 ∷ 0x10 ∷ 0x01 ∷ []) ∷ [])
    (success (0x67 ∷ 0x00 ∷ []) ∷ [])
    0xFF false
    -- 9. dwLength FFFFFFFFh: bError 01h
    ∷ on4442 0x07
    ((0x6F ∷ 0xFF ∷ 0xFF ∷ 0xFF ∷ 0xFF ∷ 0 ∷ 0 ∷ 0 ∷ 0 ∷ 0 ∷ []) ∷ [])
    (failure 0x01 ∷ [])
    0x07 false
    -- 10. Data of 261 bytes reach the commands; 262 do not
    ∷ on4442 0x07
    (transfer (0xFF ∷ 0xD0 ∷ 0x00 ∷ 0x00 ∷ 0xFF ∷ replicate 256 0) ∷ transfer (0xFF ∷ 0xD0 ∷ 0x00 ∷ 0x00 ∷ 0xFF ∷ replicate 257 0) ∷ [])
    (success (0x67 ∷ 0x00 ∷ []) ∷ failure 0x01 ∷ [])
    0x07 false
    -- 11. kind 1, reader page 16, 00..0F written at 0: addresses 0..7 hold 08..0F, 8..15 are untouched
    ∷ record {
      slot = paged 16 (selected_slot I2c1);
      image = replicate 128 0xFF;
      messages = transfer (0xFF ∷ 0xD0 ∷ 0x00 ∷ 0x00 ∷ 0x10 ∷ 0 ∷ 1 ∷ 2 ∷ 3 ∷ 4 ∷ 5 ∷ 6 ∷ 7 ∷ 8 ∷ 9 ∷ 10 ∷ 11 ∷ 12 ∷ 13 ∷ 14 ∷ 15 ∷ []) ∷ [];
      answers = success (0x90 ∷ 0x00 ∷ []) ∷ [];
      address = 0;
      bytes = 8 ∷ 9 ∷ 10 ∷ 11 ∷ 12 ∷ 13 ∷ 14 ∷ 15 ∷ replicate 8 0xFF;
      opened = false;
    }
    ∷ []
