-- Wrong readers of faults 1 to 5 and their order, and of power on, power off and slot status.
use Rattle.std.specs.Prelude.{ℕ, ◌+◌, ◌-◌, ◌%◌, ◌^◌, true, false, not, List, [], ◌∷◌, ◌++◌, length, take, drop, set, ltb}
use Rattle.std.proofs.lemmas.List.Edits.{sets}
use Rattle.std.specs.Int.Count.{count_trailing_zeros}
use Rattle.words.specs.Choice.{◌⇒◌⁏◌, ◌and◌, ◌or◌, ◌is◌, ◌isnt◌}
use Rattle.words.specs.Bytes.{byte, four_bytes}
use Rattle.chips.specs.declared.Facts.{Facts}
use Rattle.slot.specs.Slots.{occupied, powered, type_as, page_as, opened, closed}
use Rattle.std.specs.Prelude.{Some, None, is_some, unwrap_or, option_map}
use Rattle.faults.specs.declared.Fault.{Fault}
use Rattle.faults.specs.Faults.{type_byte, dw_length, b_slot, supported, bad_field, ready, is_clear, fault_of}
use Rattle.frame.specs.Answers.{b_error}
use Rattle.frame.specs.Exchange.{exchange}
use Rattle.wrong.specs.Wrong.{recounting, Reader, slotting, imaging, marking, telling, card_in, faulting, upon}
use Rattle.wrong.specs.WrongAnswers.{failed}

-- ---- fault 1
-- takes this type for slot status
abbrev pub takes_type : ℕ → Reader
takes_type type s image m room = exchange s image (type_byte m is type ⇒ set m 0 0x65 ⁏ m) room

-- does not support this type
abbrev pub drops_type : ℕ → Reader
drops_type type s image m room = exchange s image (type_byte m is type ⇒ set m 0 0x00 ⁏ m) room

-- ---- fault 2
-- the message with its own length in dwLength
abbrev pub mended : List ℕ → List ℕ
mended m = take 1 m ++ four_bytes (length m - 10) ++ drop 5 m

-- takes a dwLength larger than the bytes that came, and does what came
abbrev pub believes_larger : Reader
believes_larger = faulting λ r s m. fault_of r s (ltb (length m - 10) (dw_length m) ⇒ mended m ⁏ m)

-- compares the low byte of dwLength alone
abbrev pub low_byte_alone : Reader
low_byte_alone = faulting λ r s m. fault_of r s (dw_length m % 256 is (length m - 10) % 256 ⇒ mended m ⁏ m)

-- reads dwLength high byte first
abbrev pub reads_high_first : Reader
reads_high_first = faulting λ r s m. fault_of r s (sets m 1 (byte m 4 ∷ byte m 3 ∷ byte m 2 ∷ byte m 1 ∷ []))

-- takes data of 262 bytes
abbrev pub takes262 : Reader
takes262 = faulting λ r s m. fault_of r s (dw_length m is 262 and length m is 272 ⇒ mended (take 271 m) ⁏ m)

-- takes no data of 261 bytes
abbrev pub refuses261 : Reader
refuses261 = faulting λ r s m. supported r and dw_length m is 261 ⇒ Some Fault.Length ⁏ fault_of r s m

-- passes over data behind this type
abbrev pub passes_data : ℕ → Reader
passes_data type = faulting λ r s m. fault_of r s (type_byte m is type and dw_length m is (length m - 10) ⇒ mended (take 10 m) ⁏ m)

-- ---- fault 3
-- takes every bSlot for slot 0
abbrev pub any_slot : Reader
any_slot s image m room = marking 5 (b_slot m) (exchange s image (set m 5 0) room)

-- takes this bSlot for slot 0
abbrev pub takes_slot : ℕ → Reader
takes_slot n s image m room = b_slot m is n ⇒ marking 5 n (exchange s image (set m 5 0) room) ⁏ exchange s image m room

-- reads the bSlot of 62h at offset 2 (the misprint of 002, 003 and 004)
abbrev pub slot_at_two : Reader
slot_at_two s image m room = exchange s image (type_byte m is 0x62 ⇒ set m 5 (byte m 2) ⁏ m) room

-- ---- fault 4
-- takes this bPowerSelect
abbrev pub takes_power : ℕ → Reader
takes_power n = faulting λ r s m. fault_of r s (byte m 7 is n ⇒ set m 7 0 ⁏ m)

-- takes no bPowerSelect of this value
abbrev pub refuses_power : ℕ → Reader
refuses_power n = faulting λ r s m. fault_of r s (byte m 7 is n ⇒ set m 7 4 ⁏ m)

-- does not look at bPowerSelect
abbrev pub any_power : Reader
any_power = faulting λ r s m. fault_of r s (set m 7 0)

-- looks at byte 7 of this type as if it were bPowerSelect
abbrev pub power_in : ℕ → Reader
power_in type = faulting λ r s m. type_byte m is type and is_clear (fault_of r s m) and ltb 3 (byte m 7) ⇒ Some (Fault.Field 7) ⁏ fault_of r s m

-- looks at the high byte of wLevelParameter alone
abbrev pub high_level_alone : Reader
high_level_alone = faulting λ r s m. fault_of r s (set m 8 0)

-- looks at the low byte of wLevelParameter alone
abbrev pub low_level_alone : Reader
low_level_alone = faulting λ r s m. fault_of r s (set m 9 0)

-- looks at bytes 8 and 9 of this type as if they were wLevelParameter
abbrev pub level_in : ℕ → Reader
level_in type = faulting λ r s m.
    type_byte m is type and is_clear (fault_of r s m) and (byte m 8 isnt 0 or byte m 9 isnt 0) ⇒ Some (Fault.Field 8)
    ⁏ fault_of r s m

-- ---- fault 5
-- powers on without a card
abbrev pub powers_nothing : Reader
powers_nothing = faulting λ r s m. type_byte m is 0x62 and b_error (fault_of r s m) is 0xFE ⇒ None ⁏ fault_of r s m

-- powers on only a card that is active
abbrev pub powers_active : Reader
powers_active = faulting λ r s m. type_byte m is 0x62 and is_clear (fault_of r s m) and not s.active ⇒ Some Fault.Card ⁏ fault_of r s m

-- powers on only a card that is inactive
abbrev pub powers_once : Reader
powers_once = faulting λ r s m. type_byte m is 0x62 and is_clear (fault_of r s m) and s.active ⇒ Some Fault.Card ⁏ fault_of r s m

-- does a transfer with a card that is inactive
abbrev pub transfers_idle : Reader
transfers_idle = faulting λ r s m. b_error (fault_of r s m) is 0xFE and occupied s.holds ⇒ None ⁏ fault_of r s m

-- powers an inactive card on by itself for a transfer
abbrev pub transfer_wakes : Reader
transfer_wakes s image m room =
    let o = exchange s image m room in
    failed o and byte o.answer 8 is 0xFE and occupied s.holds ⇒ exchange (powered true s) image m room
    ⁏ o

-- fails this type without a card
abbrev pub needs_card : ℕ → Reader
needs_card type = faulting λ r s m. type_byte m is type and is_clear (fault_of r s m) and not (occupied s.holds) ⇒ Some Fault.Card ⁏ fault_of r s m

-- ---- the order of the faults
-- finds fault 2 before 1
abbrev pub length_before_type : Reader
length_before_type = faulting λ r s m. dw_length m isnt (length m - 10) ⇒ Some Fault.Length ⁏ fault_of r s m

-- finds fault 3 before 2
abbrev pub slot_before_length : Reader
slot_before_length = faulting λ r s m. supported r and b_slot m isnt 0 ⇒ Some Fault.OtherSlot ⁏ fault_of r s m

-- finds fault 4 before 3
abbrev pub header_before_slot : Reader
header_before_slot = faulting λ r s m. b_error (fault_of r s m) is 0x05 and is_some (bad_field r m) ⇒ option_map Fault.Field (bad_field r m) ⁏ fault_of r s m

-- finds fault 5 before 4
abbrev pub card_before_header : Reader
card_before_header = faulting λ r s m.
    is_some (bad_field r m) and b_error (fault_of r s m) is unwrap_or (bad_field r m) 0 and not (ready r s) ⇒ Some Fault.Card
    ⁏ fault_of r s m

-- ---- power on
-- keeps the type at power on
abbrev pub on_keeps_type : Reader
on_keeps_type = upon 0x62 λ s image o. slotting (type_as s.selected o.slot) o

-- keeps the card open at power on
abbrev pub on_keeps_open : Reader
on_keeps_open = upon 0x62 λ s image o. s.«open» ⇒ slotting (opened o.slot) o ⁏ o

-- puts the page to 8 at power on
abbrev pub on_resets_page : Reader
on_resets_page = upon 0x62 λ s image o. slotting (page_as 8 o.slot) o

-- leaves the card inactive at power on
abbrev pub on_stays_idle : Reader
on_stays_idle = upon 0x62 λ s image o. slotting (powered false o.slot) o

-- answers power on of a code card with 3B 00 too
abbrev pub reset_bare : Reader
reset_bare = upon 0x62 λ s image o. telling (0x3B ∷ 0x00 ∷ []) o

-- answers power on of an I2C card with four memory bytes too
abbrev pub reset_full : Reader
reset_full = upon 0x62 λ s image o. telling (0x3B ∷ 0x04 ∷ take 4 image) o

-- answers power on of a code card with three memory bytes
abbrev pub reset_short : Reader
reset_short = upon 0x62 λ s image o. (card_in s.holds).coded ⇒ telling (0x3B ∷ 0x03 ∷ take 3 image) o ⁏ o

-- ---- power off and slot status
-- keeps the type at power off
abbrev pub off_keeps_type : Reader
off_keeps_type = upon 0x63 λ s image o. slotting (type_as s.selected o.slot) o

-- keeps the card open at power off
abbrev pub off_keeps_open : Reader
off_keeps_open = upon 0x63 λ s image o. s.«open» ⇒ slotting (opened o.slot) o ⁏ o

-- puts the page to 8 at power off
abbrev pub off_resets_page : Reader
off_resets_page = upon 0x63 λ s image o. slotting (page_as 8 o.slot) o

-- closes the card at slot status
abbrev pub status_closes : Reader
status_closes = upon 0x65 λ s image o. slotting (closed o.slot) o

-- ---- tries given back
-- a counter with its lowest 0 bit set, unless it is full
abbrev pub one_more : Facts → ℕ → ℕ
one_more f c = c is f.full ⇒ c ⁏ c + 2 ^ count_trailing_zeros 8 (0xFF - c)

-- gives a try back at this type
abbrev pub gives_try : ℕ → Reader
gives_try type = upon type λ s image o.
    let f = card_in s.holds in
    f.coded ⇒ recounting (imaging (set o.image f.counter (one_more f (byte o.image f.counter))) o)
    ⁏ o

-- gives all tries back at this type
abbrev pub gives_all : ℕ → Reader
gives_all type = upon type λ s image o.
    let f = card_in s.holds in
    f.coded ⇒ recounting (imaging (set o.image f.counter f.full) o)
    ⁏ o
