-- "and their answers": the header of an answer, and the data behind it.
use Rattle.std.specs.Prelude.{ℕ, ◌+◌, not, Option, Some, None, List, [], ◌∷◌, ◌++◌, length}
use Rattle.words.specs.Choice.{◌⇒◌⁏◌, ◌or◌, ◌is◌, ◌isnt◌}
use Rattle.words.specs.Bytes.{four_bytes}
use Rattle.sets.specs.Sets.{protocol_of}
use Rattle.slot.specs.declared.Slot.{Slot}
use Rattle.slot.specs.Slots.{occupied}
use Rattle.faults.specs.declared.Fault.{Fault}
use Rattle.faults.specs.declared.Fault.TheVariants.{Unknown, Length, OtherSlot, Field, Card}
use Rattle.faults.specs.declared.Request.{Request}
use Rattle.faults.specs.declared.Request.TheVariants.{SetParameters, PowerOn, PowerOff, SlotStatus, GetParameters, ResetParameters, Transfer, Unsupported}
use Rattle.faults.specs.Faults.{b_slot, b_seq, is_clear}

-- "62h and 6Fh answer 80h; the rest, unsupported types too, 81h"; 02: the three of parameters are "answered by 82h"
abbrev pub answer_type : Request → ℕ
answer_type SetParameters = 0x82
answer_type PowerOn = 0x80
answer_type PowerOff = 0x81
answer_type SlotStatus = 0x81
answer_type GetParameters = 0x82
answer_type ResetParameters = 0x82
answer_type Transfer = 0x80
answer_type Unsupported = 0x81

-- "bError is 00h on success"; a wrong field gives its offset
abbrev pub b_error : Option Fault → ℕ
b_error None = 0x00
b_error (Some Unknown) = 0x00
b_error (Some Length) = 0x01
b_error (Some OtherSlot) = 0x05
b_error (Some (Field at)) = at
b_error (Some Card) = 0xFE

-- "card state after the call (0 active, 1 inactive, 2 no card or bSlot not 0)", n being bSlot and s the slot after the call
unfoldable pub card_state : ℕ → Slot → ℕ
card_state n s = n isnt 0 or not (occupied s.holds) ⇒ 2 ⁏ s.active ⇒ 0 ⁏ 1

-- "bStatus is card state after the call .. plus 40h when failed"
unfoldable pub b_status : Option Fault → ℕ → ℕ
b_status f state = is_clear f ⇒ state ⁏ state + 0x40

-- "Byte 9 is 00h in 80h; in 81h it is 00h when slot 0 is meant and active after the call, else 01h"; in 82h it is "the protocol number", and "a
-- failed 82h has .. protocol number 0": of an answer type, a fault, a card state and the slot after the call
unfoldable pub byte9 : ℕ → Option Fault → ℕ → Slot → ℕ
byte9 type f state s =
    type is 0x80 ⇒ 0
    ⁏ type is 0x82 ⇒ (is_clear f ⇒ protocol_of s.set ⁏ 0)
    ⁏ state is 0 ⇒ 0
    ⁏ 1

-- "Answer: type, dwLength, bSlot and bSeq echoed, bStatus, bError, one byte": the ten bytes of a type, a data length, the bSlot and bSeq
-- of the message, a status, an error and a last byte
unfoldable pub header : ℕ → ℕ → ℕ → ℕ → ℕ → ℕ → ℕ → List ℕ
header type len slot seq status error last = type ∷ four_bytes len ++ (slot ∷ seq ∷ status ∷ error ∷ last ∷ [])

-- "answer data go in from byte 10": the whole answer to message m with fault f, s being the slot after the call
unfoldable pub answer : Request → List ℕ → Option Fault → Slot → List ℕ → List ℕ
answer r m f s said =
    let state = card_state (b_slot m) s in
    header (answer_type r) (length said) (b_slot m) (b_seq m) (b_status f state) (b_error f) (byte9 (answer_type r) f state s) ++ said
