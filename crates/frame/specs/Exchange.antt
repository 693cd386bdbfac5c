-- One message, one insertion, one removal: what comes of each, for every input.
use Rattle.std.specs.Prelude.{◌≡◌, ℕ, ◌+◌, true, false, not, Option, Some, None, Result, Ok, Err, List, [], ◌∷◌, length, take, ltb}
use Rattle.words.specs.Choice.{◌⇒◌⁏◌, ◌isnt◌}
use Rattle.words.specs.Bytes.{over}
use Rattle.words.specs.Bounds.{least_room}
use Rattle.chips.specs.declared.Facts.{Facts}
use Rattle.chips.specs.Kinds.{facts, chip_of}
use Rattle.sets.specs.Sets.{bytes_of, set_of}
use Rattle.card.specs.Images.{is_card}
use Rattle.slot.specs.declared.Slot.{Slot}
use Rattle.slot.specs.Slots.{occupied, powered, set_as, defaulted}
use Rattle.counts.specs.Counts.{put_in}
use Rattle.sound.specs.Sound.{image_is_card, sound}
use Rattle.orders.specs.Orders.{Deed, commanded}
use Rattle.faults.specs.declared.Fault.{Fault}
use Rattle.frame.specs.declared.Refusal.{Refusal}
use Rattle.frame.specs.declared.Reply.{Reply}
use Rattle.faults.specs.declared.Request.{Request}
use Rattle.faults.specs.declared.Request.TheVariants.{SetParameters, PowerOn, PowerOff, SlotStatus, GetParameters, ResetParameters, Transfer, Unsupported}
use Rattle.faults.specs.Faults.{type_byte, apdu, b_slot, b_seq, request_of, fault_of, is_clear}
use Rattle.frame.specs.Answers.{b_error, card_state, b_status, byte9, header, answer}
use Rattle.chips.specs.declared.Chip.{Chip}

-- "Turned down without an answer": the numbers of the table
abbrev pub number_of : Refusal → ℕ
number_of Refusal.Buffer = 1
number_of Refusal.Message = 2
number_of Refusal.Image = 3
number_of Refusal.Record = 4
number_of Refusal.Occupied = 5

-- what comes of a call: the number it is turned down with, or 0; the answer; the slot record and the image afterwards
pub record Outcome : Type 0 where
  pub number : ℕ
  pub answer : List ℕ
  pub slot : Slot
  pub image : List ℕ

-- "Each returns its number and answer length 0; slot, image and answer buffer keep every byte"
abbrev pub turned_down : Refusal → Slot → List ℕ → Outcome
turned_down r s image = record { number = number_of r; answer = []; slot = s; image = image }

-- Power on: "data 3B 00 for I2C, 3B 04 and the first four memory bytes for a code card"; 02: a card without a code as one with
unfoldable pub reset : Facts → List ℕ → List ℕ
reset f image = f.page isnt 0 ⇒ 0x3B ∷ 0x00 ∷ [] ⁏ 0x3B ∷ 0x04 ∷ take 4 image

-- a message that does nothing to the slot and the image but what it says of the slot
abbrev pub idle : Slot → List ℕ → Deed
idle s image = record { said = []; slot = s; image = image }

-- 82h: the data are the bytes of the set after the call
abbrev pub told : Slot → List ℕ → Deed
told s image = record { said = bytes_of s.set; slot = s; image = image }

-- what a message without a fault does; 62h and 6Fh come here with a card alone. 02: the default returns "on reset, power on"
unfoldable pub deed : Request → Option Chip → Slot → List ℕ → List ℕ → Deed
deed SetParameters h s image m = told (set_as (set_of m) s) image
deed PowerOn None s image m = idle s image
deed PowerOn (Some chip) s image m = record { said = reset (facts chip) image; slot = defaulted (powered true s); image = image }
deed PowerOff h s image m = idle (powered false s) image
deed SlotStatus h s image m = idle s image
deed GetParameters h s image m = told s image
deed ResetParameters h s image m = told (defaulted s) image
deed Transfer None s image m = idle s image
deed Transfer (Some chip) s image m = commanded (facts chip) s image (apdu m)
deed Unsupported h s image m = idle s image

-- the answer to a message with fault f and deed d
abbrev pub answered : Request → List ℕ → Option Fault → Deed → Outcome
answered r m f d = record { number = 0; answer = answer r m f d.slot d.said; slot = d.slot; image = d.image }

-- "a failed message has no data and changes neither slot nor image"
unfoldable pub replied : Request → Option Fault → Slot → List ℕ → List ℕ → Outcome
replied r f s image m = answered r m f (is_clear f ⇒ deed r s.holds s image m ⁏ idle s image)

unfoldable pub reply : Request → Slot → List ℕ → List ℕ → Outcome
reply r s image m = replied r (fault_of r s m) s image m

-- "A message is tested 1, 2, 3, 4": the slot that is named tests 3 and 4, and answers,
unfoldable pub served : Slot → List ℕ → List ℕ → Outcome
served s image m =
    not (image_is_card s.holds image) ⇒ turned_down Refusal.Image s image
    ⁏ not (sound s image) ⇒ turned_down Refusal.Record s image
    ⁏ reply (request_of (type_byte m)) s image m

-- behind 1 and 2, which look at no slot; room is the length of the answer buffer
unfoldable pub exchange : Slot → List ℕ → List ℕ → ℕ → Outcome
exchange s image m room =
    ltb room least_room ⇒ turned_down Refusal.Buffer s image
    ⁏ ltb (length m) 10 ⇒ turned_down Refusal.Message s image
    ⁏ served s image m

-- "Insertion tests 5, then 3"; "Insertion gives: inactive, no type, page 8, closed, image unchanged"
unfoldable pub inserted_as : Option Chip → Slot → List ℕ → Outcome
inserted_as (Some chip) s image = is_card (facts chip) image ⇒ record { number = 0; answer = []; slot = put_in chip image; image = image } ⁏ turned_down Refusal.Image s image
inserted_as None s image = turned_down Refusal.Image s image

unfoldable pub insertion : Slot → ℕ → List ℕ → Outcome
insertion s kind image =
    occupied s.holds ⇒ turned_down Refusal.Occupied s image
    ⁏ inserted_as (chip_of kind) s image

-- The verdict of a call: its number, and the answer's length.
abbrev pub number : Result ℕ Refusal → ℕ
number (Ok n) = 0
number (Err r) = number_of r

abbrev pub answer_length : Result ℕ Refusal → ℕ
answer_length (Ok n) = n
answer_length (Err r) = 0

-- What a call gives where o is to come of it: the verdict's number and length, the next slot, the image as it left it, and the answer
-- buffer, the answer laid over what it held. Turned down, the answer is empty and the buffer is as it was.
pub record Gives (o : Outcome) (r : Reply) (left was holds : List ℕ) : Type 0 where
  pub number : number r.verdict ≡ o.number
  pub len : answer_length r.verdict ≡ length o.answer
  pub slot : r.slot ≡ o.slot
  pub image : left ≡ o.image
  pub buffer : holds ≡ over o.answer was

-- What sealing an answer leaves behind: its verdict, the slot after the call, and the header over the buffer. This is no rule.
pub record Sealed (type : ℕ) (f : Option Fault) (len : ℕ) (s : Slot) (m : List ℕ) (r : Reply) (was holds : List ℕ) : Type 0 where
  pub verdict : r.verdict ≡ Ok (10 + len)
  pub slot : r.slot ≡ s
  pub buffer : holds ≡ over (header type len (b_slot m) (b_seq m) (b_status f (card_state (b_slot m) s)) (b_error f) (byte9 type f (card_state (b_slot m) s) s)) was
