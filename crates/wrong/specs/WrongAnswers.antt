-- Wrong readers of the answer's header, and of what a failed message leaves.
use Rattle.std.specs.Prelude.{ℕ, ◌+◌, ◌-◌, ◌%◌, Bool, false, not, [], ◌∷◌, ◌++◌, length, take, leb}
use Rattle.std.proofs.lemmas.List.Edits.{sets}
use Rattle.words.specs.Choice.{◌⇒◌⁏◌, ◌and◌, ◌is◌, ◌isnt◌}
use Rattle.words.specs.Bytes.{byte, four_bytes}
use Rattle.codes.specs.Codes.{spending}
use Rattle.slot.specs.Slots.{occupied, powered}
use Rattle.faults.specs.Faults.{type_byte, b_slot}
use Rattle.frame.specs.Answers.{card_state}
use Rattle.frame.specs.Exchange.{Outcome, exchange}
use Rattle.wrong.specs.Wrong.{Reader, saying, slotting, imaging, marking, telling, card_in, upon}

-- the answer says failed; the message was answered and did not fail; the answer is an 81h
abbrev pub failed : Outcome → Bool
failed o = leb 0x40 (byte o.answer 7)

abbrev pub succeeded : Outcome → Bool
succeeded o = o.number is 0 and not (failed o)

abbrev pub in81 : Outcome → Bool
in81 o = byte o.answer 0 is 0x81

-- ---- type, dwLength, bSlot, bSeq
-- answers this type with the other answer type
abbrev pub retypes : ℕ → Reader
retypes type s image m room = let o = exchange s image m room in type_byte m is type ⇒ marking 0 (0x101 - byte o.answer 0) o ⁏ o

-- sends dwLength high byte first
abbrev pub length_high_first : Reader
length_high_first s image m room =
    let o = exchange s image m room in
    saying (sets o.answer 1 (byte o.answer 4 ∷ byte o.answer 3 ∷ byte o.answer 2 ∷ byte o.answer 1 ∷ [])) o

-- counts the header in dwLength
abbrev pub length_whole : Reader
length_whole s image m room = let o = exchange s image m room in saying (sets o.answer 1 (four_bytes (length o.answer))) o

-- does not echo bSlot
abbrev pub drops_slot : Reader
drops_slot s image m room = marking 5 0 (exchange s image m room)

-- does not echo bSeq
abbrev pub drops_seq : Reader
drops_seq s image m room = marking 6 0 (exchange s image m room)

-- answers with the next bSeq
abbrev pub next_seq : Reader
next_seq s image m room = let o = exchange s image m room in marking 6 ((byte o.answer 6 + 1) % 256) o

-- ---- bStatus
-- leaves 40h out of a failure
abbrev pub drops_forty : Reader
drops_forty s image m room = let o = exchange s image m room in failed o ⇒ marking 7 (byte o.answer 7 - 0x40) o ⁏ o

-- tells the card's state before the call
abbrev pub state_before : Reader
state_before s image m room = let o = exchange s image m room in succeeded o ⇒ marking 7 (card_state (b_slot m) s) o ⁏ o

-- tells active as 1 and inactive as 0
abbrev pub state_turned : Reader
state_turned s image m room =
    let o = exchange s image m room in
    b_slot m is 0 and occupied s.holds ⇒ marking 7 (failed o ⇒ 0x81 - byte o.answer 7 ⁏ 1 - byte o.answer 7) o
    ⁏ o

-- tells an absent card as an inactive one
abbrev pub absent_inactive : Reader
absent_inactive s image m room =
    let o = exchange s image m room in
    b_slot m is 0 and not (occupied s.holds) ⇒ marking 7 (byte o.answer 7 - 1) o
    ⁏ o

-- answers a bSlot that is not 0 with this slot's state
abbrev pub own_state : Reader
own_state s image m room = let o = exchange s image m room in b_slot m isnt 0 ⇒ marking 7 (0x40 + card_state 0 s) o ⁏ o

-- tells a command that a status word refuses as a failed message
abbrev pub refused_fails : Reader
refused_fails = upon 0x6F λ s image o. byte o.answer (length o.answer - 2) is 0x90 ⇒ o ⁏ marking 7 (0x40 + byte o.answer 7) o

-- ---- bError
-- gives the next bError in place of this one
abbrev pub misnames : ℕ → Reader
misnames e s image m room = let o = exchange s image m room in failed o and byte o.answer 8 is e ⇒ marking 8 (e + 1) o ⁏ o

-- gives a success bError 01h
abbrev pub names_success : Reader
names_success s image m room = let o = exchange s image m room in succeeded o ⇒ marking 8 0x01 o ⁏ o

-- ---- byte 9
-- tells the clock in byte 9 of 80h too: 01h where the card is not active
abbrev pub clock_in80 : Reader
clock_in80 s image m room = let o = exchange s image m room in marking 9 (byte o.answer 7 % 0x40 is 0 ⇒ 0 ⁏ 1) o

-- says 00h in byte 9 always
abbrev pub clock_runs : Reader
clock_runs s image m room = marking 9 0 (exchange s image m room)

-- says 01h in byte 9 of every 81h
abbrev pub clock_stands : Reader
clock_stands s image m room = let o = exchange s image m room in in81 o ⇒ marking 9 1 o ⁏ o

-- goes by this slot for byte 9 where another one is meant
abbrev pub clock_of_own : Reader
clock_of_own s image m room = let o = exchange s image m room in in81 o ⇒ marking 9 (o.slot.active ⇒ 0 ⁏ 1) o ⁏ o

-- goes by the card's state before the call for byte 9
abbrev pub clock_before : Reader
clock_before s image m room = let o = exchange s image m room in in81 o and b_slot m is 0 ⇒ marking 9 (s.active ⇒ 0 ⁏ 1) o ⁏ o

-- says 02h in byte 9 where there is no card or another slot is meant
abbrev pub clock_unknown : Reader
clock_unknown s image m room = let o = exchange s image m room in in81 o and byte o.answer 7 % 0x40 is 2 ⇒ marking 9 2 o ⁏ o

-- ---- the answer's end
-- sends a byte 00h behind the answer
abbrev pub pads_answer : Reader
pads_answer s image m room = let o = exchange s image m room in o.number is 0 ⇒ saying (o.answer ++ (0x00 ∷ [])) o ⁏ o

-- leaves the answer's last byte out
abbrev pub cuts_answer : Reader
cuts_answer s image m room = let o = exchange s image m room in saying (take (length o.answer - 1) o.answer) o

-- ---- a failed message
-- answers a failed transfer with the data 6F 00
abbrev pub fails_with_data : Reader
fails_with_data s image m room = let o = exchange s image m room in type_byte m is 0x6F and failed o ⇒ telling (0x6F ∷ 0x00 ∷ []) o ⁏ o

-- powers the card off where a message fails
abbrev pub failure_powers_off : Reader
failure_powers_off s image m room = let o = exchange s image m room in failed o ⇒ slotting (powered false s) o ⁏ o

-- charges the code that a failed transfer carries
abbrev pub failure_charges : Reader
failure_charges s image m room =
    let o = exchange s image m room in
    failed o and type_byte m is 0x6F and byte m 11 is 0x20 and (card_in s.holds).coded ⇒ imaging (spending (card_in s.holds).counter image) o
    ⁏ o
