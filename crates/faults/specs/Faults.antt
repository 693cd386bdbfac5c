-- "Messages": the header, the supported types, and the faults in their order.
use Rattle.std.specs.Prelude.{ℕ, ◌-◌, Bool, true, false, not, Option, Some, None, is_some, is_none, option_map, List, length, drop, ltb, leb}
use Rattle.words.specs.Choice.{◌⇒◌⁏◌, ◌or◌, ◌is◌, ◌isnt◌}
use Rattle.words.specs.Bytes.{byte, four_at}
use Rattle.sets.specs.Sets.{fault_at, set_of}
use Rattle.slot.specs.declared.Slot.{Slot}
use Rattle.slot.specs.Slots.{occupied}
use Rattle.faults.specs.declared.Request.{Request}
use Rattle.faults.specs.declared.Request.TheVariants.{SetParameters, PowerOn, PowerOff, SlotStatus, GetParameters, ResetParameters, Transfer, Unsupported}
use Rattle.faults.specs.declared.Fault.{Fault}
use Rattle.faults.specs.declared.Fault.TheVariants.{Unknown, Length, OtherSlot, Field, Card}

-- "Header: type, dwLength (4 bytes, low first), bSlot, bSeq, three more bytes; the pseudo-APDU begins at byte 10 of the message"
abbrev pub type_byte : List ℕ → ℕ
type_byte m = byte m 0

abbrev pub dw_length : List ℕ → ℕ
dw_length m = four_at m 1

abbrev pub b_slot : List ℕ → ℕ
b_slot m = byte m 5

abbrev pub b_seq : List ℕ → ℕ
b_seq m = byte m 6

abbrev pub b_power_select : List ℕ → ℕ
b_power_select m = byte m 7

abbrev pub apdu : List ℕ → List ℕ
apdu m = drop 10 m

-- "Supported types are 62h, 63h, 65h and 6Fh (power on, power off, slot status, transfer)"; 02: "GetParameters (6Ch), ResetParameters (6Dh)
-- and SetParameters (61h)" join them
unfoldable pub request_of : ℕ → Request
request_of b =
    b is 0x61 ⇒ SetParameters
    ⁏ b is 0x62 ⇒ PowerOn
    ⁏ b is 0x63 ⇒ PowerOff
    ⁏ b is 0x65 ⇒ SlotStatus
    ⁏ b is 0x6C ⇒ GetParameters
    ⁏ b is 0x6D ⇒ ResetParameters
    ⁏ b is 0x6F ⇒ Transfer
    ⁏ Unsupported

-- Tables by type: a new type is a new line in each.
-- fault 1: "unsupported type"
abbrev pub supported : Request → Bool
supported SetParameters = true
supported PowerOn = true
supported PowerOff = true
supported SlotStatus = true
supported GetParameters = true
supported ResetParameters = true
supported Transfer = true
supported Unsupported = false

-- fault 2: dwLength "above 261, or not 0 for 62h, 63h, 65h"; 02: "6Ch and 6Dh need dwLength 0, 61h needs 5 or 7"
abbrev pub data_fits : Request → ℕ → Bool
data_fits SetParameters n = n is 5 or n is 7
data_fits PowerOn n = n is 0
data_fits PowerOff n = n is 0
data_fits SlotStatus n = n is 0
data_fits GetParameters n = n is 0
data_fits ResetParameters n = n is 0
data_fits Transfer n = leb n 261
data_fits Unsupported n = true

-- fault 4: "62h with bPowerSelect (byte 7) above 3: 07h; 6Fh with wLevelParameter (bytes 8, 9) not 0: 08h"; 61h's, each "their own offset".
-- Each is told by the offset of the field that is wrong.
abbrev pub bad_field : Request → List ℕ → Option ℕ
bad_field SetParameters m = fault_at (set_of m) (length m - 10)
bad_field PowerOn m = ltb 3 (b_power_select m) ⇒ Some 7 ⁏ None
bad_field PowerOff m = None
bad_field SlotStatus m = None
bad_field GetParameters m = None
bad_field ResetParameters m = None
bad_field Transfer m = byte m 8 isnt 0 ⇒ Some 8 ⁏ byte m 9 isnt 0 ⇒ Some 8 ⁏ None
bad_field Unsupported m = None

-- fault 5: "62h without a card, 6Fh without an active card"; 02: "no card is FEh at step 5"
abbrev pub ready : Request → Slot → Bool
ready SetParameters s = occupied s.holds
ready PowerOn s = occupied s.holds
ready PowerOff s = true
ready SlotStatus s = true
ready GetParameters s = occupied s.holds
ready ResetParameters s = occupied s.holds
ready Transfer s = s.active
ready Unsupported s = true

-- nothing is wrong
abbrev pub is_clear : Option Fault → Bool
is_clear fault = is_none fault

-- "First fault wins"
unfoldable pub fault_of : Request → Slot → List ℕ → Option Fault
fault_of r s m =
    not (supported r) ⇒ Some Unknown
    ⁏ dw_length m isnt (length m - 10) ⇒ Some Length
    ⁏ not (data_fits r (dw_length m)) ⇒ Some Length
    ⁏ b_slot m isnt 0 ⇒ Some OtherSlot
    ⁏ is_some (bad_field r m) ⇒ option_map Field (bad_field r m)
    ⁏ not (ready r s) ⇒ Some Card
    ⁏ None
