-- The calls on a raw record: what comes of each, for every input.
use Rattle.std.specs.Prelude.{◌≡◌, ℕ, zero, suc, not, List, [], length, ℤ, pos, negsuc, Option, Result, Ok, Err}
use Rattle.words.specs.Choice.{◌⇒◌⁏◌, ◌is◌, ◌isnt◌}
use Rattle.words.specs.Bytes.{byte, over}
use Rattle.slot.specs.declared.Slot.{Slot}
use Rattle.slot.specs.Slots.{removed}
use Rattle.sound.specs.Sound.{image_is_card}
use Rattle.record.specs.declared.Flaw.{Flaw}
use Rattle.record.specs.Raw.{raw_of, slot_of}
use Rattle.frame.specs.declared.Refusal.{Refusal}
use Rattle.frame.specs.Exchange.{Outcome, number_of, number, answer_length, served, insertion}
use Rattle.reader.specs.Fronts.{front_of}
use Rattle.chips.specs.declared.Chip.{Chip}

-- ---- what comes of a call
pub record RawOutcome : Type 0 where
  pub number : ℕ
  pub answer : List ℕ
  pub raw : List ℕ
  pub image : List ℕ

-- turned down: record, image and buffer as they came
abbrev pub raw_down : Refusal → List ℕ → List ℕ → RawOutcome
raw_down f r image = record { number = number_of f; answer = []; raw = r; image = image }

-- the record afterwards: the next slot, written, where the call is not turned down
unfoldable pub keeping : ℕ → Slot → List ℕ → List ℕ
keeping n s r = n is 0 ⇒ raw_of s ⁏ r

-- what comes of a call on the slot that was read, as a call on the record
abbrev pub rawly : List ℕ → Outcome → RawOutcome
rawly r o = record { number = o.number; answer = o.answer; raw = keeping o.number o.slot r; image = o.image }

-- a broken record is 3 where the image is not one of its kind, else 4
unfoldable pub broken_as : Option Chip → List ℕ → Refusal
broken_as h image = not (image_is_card h image) ⇒ Refusal.Image ⁏ Refusal.Record

-- With room and a header: an unknown kind is 3, a broken record 3 or 4, and a slot that was read meets tests 3 and 4 of its own.
unfoldable pub raw_served : Result Slot Flaw → List ℕ → List ℕ → List ℕ → RawOutcome
raw_served (Ok s) r image m = rawly r (served s image m)
raw_served (Err (Flaw.Broken h)) r image m = raw_down (broken_as h image) r image
raw_served (Err Flaw.Unknown) r image m = raw_down Refusal.Image r image

-- "A message is tested 1, 2, 3, 4"
abbrev pub raw_fronted : Result ℕ Refusal → List ℕ → List ℕ → List ℕ → RawOutcome
raw_fronted (Err f) r image m = raw_down f r image
raw_fronted (Ok n) r image m = raw_served (slot_of r) r image m

unfoldable pub raw_exchange : List ℕ → List ℕ → List ℕ → ℕ → RawOutcome
raw_exchange r image m room = raw_fronted (front_of m room) r image m

-- "a record of another length is turned down with 4, then a kind byte not 0 with 5, then 3"
unfoldable pub raw_insertion : List ℕ → ℕ → List ℕ → RawOutcome
raw_insertion r kind image =
    length r isnt 32 ⇒ raw_down Refusal.Record r image
    ⁏ byte r 0 isnt 0 ⇒ raw_down Refusal.Occupied r image
    ⁏ rawly r (insertion removed kind image)

-- "removal makes any 32 bytes the empty record and turns another length down with 4"
unfoldable pub raw_removal : List ℕ → RawOutcome
raw_removal r =
    length r isnt 32 ⇒ raw_down Refusal.Record r []
    ⁏ record { number = 0; answer = []; raw = raw_of removed; image = [] }

-- What a call gives where o is to come of it: the verdict's number and length, the record and the image as it left them, and the answer
-- buffer, the answer laid over what it held.
pub record RawGives (o : RawOutcome) (v : Result ℕ Refusal) (left next was holds : List ℕ) : Type 0 where
  pub number : number v ≡ o.number
  pub len : answer_length v ≡ length o.answer
  pub raw : left ≡ o.raw
  pub image : next ≡ o.image
  pub buffer : holds ≡ over o.answer was

-- ---- in C's manner
-- "the answer's length or the refusal's number as a negative"
abbrev pub result_of : ℕ → ℕ → ℤ
result_of zero len = pos len
result_of (suc n) len = negsuc n

-- the same as RawGives, with the one number that C gets
pub record Returns (o : RawOutcome) (n : ℤ) (left next was holds : List ℕ) : Type 0 where
  pub result : n ≡ result_of o.number (length o.answer)
  pub raw : left ≡ o.raw
  pub image : next ≡ o.image
  pub buffer : holds ≡ over o.answer was
