-- Wrong readers of the parameters: 61h, 6Ch, 6Dh, what they answer and leave, and what of them a slot record may hold.
use Rattle.std.specs.Prelude.{ℕ, ◌+◌, ◌-◌, ◌*◌, ◌/◌, ◌%◌, Bool, false, not, [], take, set, ltb}
use Rattle.words.specs.Choice.{◌⇒◌⁏◌, ◌and◌, ◌or◌, ◌is◌, ◌isnt◌}
use Rattle.words.specs.Bytes.{byte, number_in, byte_of, series}
use Rattle.sets.specs.Sets.{default_set, protocol_of, factors, checksum, waiting, clock_stop, nad, bytes_of, reserved_fi, reserved_di, upper_bits, long_wait, fault_at, set_of, takes}
use Rattle.slot.specs.Slots.{occupied, removed, powered, set_as, defaulted}
use Rattle.sound.specs.Sound.{page_size, empty_sound, idle_sound, type_sound, open_sound, counts_sound}
use Rattle.std.specs.Prelude.{Some, None, is_none, unwrap_or}
use Rattle.faults.specs.declared.Fault.{Fault}
use Rattle.faults.specs.Faults.{type_byte, dw_length, is_clear, fault_of}
use Rattle.frame.specs.Answers.{b_error}
use Rattle.frame.specs.declared.Refusal.{Refusal}
use Rattle.frame.specs.Exchange.{Outcome, turned_down, exchange}
use Rattle.wrong.specs.Wrong.{Reader, Inserter, Remover, slotting, marking, telling, stands, faulting, fielding, vetting, upon, doing, upon_insert}
use Rattle.wrong.specs.WrongAnswers.{failed}
use Rattle.wrong.specs.WrongFaults.{mended}

-- a set with its byte k replaced: byte 0 is the protocol number, byte 1 that at offset 10
abbrev pub byte_put : ℕ → ℕ → ℕ → ℕ
byte_put k v t = number_in (set (series (byte_of t) 0 8) k v)

-- ---- 07h: the protocol number and the length
-- takes a protocol number that does not fit the length
abbrev pub any_protocol : Reader
any_protocol = fielding λ t n. fault_at (byte_put 0 (n is 5 ⇒ 0 ⁏ 1) t) n

-- gives 01h where the protocol number does not fit the length
abbrev pub protocol_as_length : Reader
protocol_as_length = fielding λ t n. let at = fault_at t n in unwrap_or at 0 is 7 ⇒ Some 1 ⁏ at

-- takes no T=1
abbrev pub refuses_t1 : Reader
refuses_t1 = fielding λ t n. protocol_of t is 1 ⇒ Some 7 ⁏ fault_at t n

-- takes 61h of six bytes by its first five
abbrev pub takes_six : Reader
takes_six = faulting λ r s m. fault_of r s (type_byte m is 0x61 and dw_length m is 6 ⇒ mended (take 15 m) ⁏ m)

-- ---- 0Ah: FI and DI
-- looks FI and DI up the wrong way round
abbrev pub turns_factors : Reader
turns_factors = fielding λ t n. fault_at (byte_put 1 (factors t % 16 * 16 + factors t / 16) t) n

-- lets this FI through
abbrev pub takes_fi : ℕ → Reader
takes_fi i = fielding λ t n. fault_at (factors t / 16 is i ⇒ byte_put 1 (0x10 + factors t % 16) t ⁏ t) n

-- lets this DI through
abbrev pub takes_di : ℕ → Reader
takes_di i = fielding λ t n. fault_at (factors t % 16 is i ⇒ byte_put 1 (factors t / 16 * 16 + 1) t ⁏ t) n

-- takes this FI for a reserved one
abbrev pub refuses_fi : ℕ → Reader
refuses_fi i = fielding λ t n. fault_at (factors t / 16 is i ⇒ byte_put 1 (0x70 + factors t % 16) t ⁏ t) n

-- takes this DI for a reserved one
abbrev pub refuses_di : ℕ → Reader
refuses_di i = fielding λ t n. fault_at (factors t % 16 is i ⇒ byte_put 1 (factors t / 16 * 16) t ⁏ t) n

-- ---- 0Bh: the checksum byte
-- tests the upper five bits of the checksum byte alone
abbrev pub five_bits : Reader
five_bits = fielding λ t n. fault_at (byte_put 2 (checksum t - checksum t / 4 % 2 * 4) t) n

-- tests all eight bits of the checksum byte
abbrev pub eight_bits : Reader
eight_bits = fielding λ t n. let at = fault_at t n in is_none at and checksum t % 4 isnt 0 ⇒ Some 11 ⁏ at

-- takes T=0's checksum bits for T=1 too
abbrev pub either_checksum : Reader
either_checksum = fielding λ t n. fault_at (byte_put 2 (protocol_of t is 1 and checksum t / 4 is 0 ⇒ 0x10 ⁏ checksum t) t) n

-- ---- 0Dh: the waiting time
-- lets BWI 10 through
abbrev pub takes_bwi10 : Reader
takes_bwi10 = fielding λ t n. fault_at (waiting t / 16 is 10 ⇒ byte_put 4 0x90 t ⁏ t) n

-- takes no BWI 9
abbrev pub refuses_bwi9 : Reader
refuses_bwi9 = fielding λ t n. fault_at (waiting t / 16 is 9 ⇒ byte_put 4 0xA0 t ⁏ t) n

-- takes the lower four bits for BWI
abbrev pub lower_bwi : Reader
lower_bwi = fielding λ t n. fault_at (byte_put 4 (waiting t % 16 * 16 + waiting t / 16) t) n

-- asks BWI of T=0 too
abbrev pub bwi_in_t0 : Reader
bwi_in_t0 = fielding λ t n. let at = fault_at t n in is_none at and ltb 9 (waiting t / 16) ⇒ Some 13 ⁏ at

-- ---- 0Eh: the clock stop; 10h: the NAD; and what is free
-- lets a clock stop of 4 through
abbrev pub takes_stop4 : Reader
takes_stop4 = fielding λ t n. fault_at (clock_stop t is 4 ⇒ byte_put 5 3 t ⁏ t) n

-- takes no clock stop of 3
abbrev pub refuses_stop3 : Reader
refuses_stop3 = fielding λ t n. fault_at (clock_stop t is 3 ⇒ byte_put 5 4 t ⁏ t) n

-- lets any NAD through
abbrev pub any_nad : Reader
any_nad = fielding λ t n. fault_at (byte_put 7 0 t) n

-- takes no guard time of FFh
abbrev pub refuses_guard : Reader
refuses_guard = fielding λ t n. let at = fault_at t n in is_none at and byte_of t 3 is 0xFF ⇒ Some 12 ⁏ at

-- takes no IFSC of 00h
abbrev pub refuses_ifsc : Reader
refuses_ifsc = fielding λ t n. let at = fault_at t n in is_none at and protocol_of t is 1 and byte_of t 6 is 0 ⇒ Some 15 ⁏ at

-- ---- the order of the bytes
-- looks from the last byte to the first
abbrev pub last_byte_first : Reader
last_byte_first = fielding λ t n.
    nad t isnt 0 ⇒ Some 16
    ⁏ ltb 3 (clock_stop t) ⇒ Some 14
    ⁏ long_wait (protocol_of t) (waiting t) ⇒ Some 13
    ⁏ checksum t / 4 isnt upper_bits (protocol_of t) ⇒ Some 11
    ⁏ reserved_fi (factors t / 16) or reserved_di (factors t % 16) ⇒ Some 10
    ⁏ fault_at t n

-- ---- FEh
-- does this type without a card
abbrev pub cardless : ℕ → Reader
cardless type = faulting λ r s m. type_byte m is type and b_error (fault_of r s m) is 0xFE ⇒ None ⁏ fault_of r s m

-- wants an active card for this type
abbrev pub wants_active : ℕ → Reader
wants_active type = faulting λ r s m. type_byte m is type and is_clear (fault_of r s m) and not s.active ⇒ Some Fault.Card ⁏ fault_of r s m

-- ---- the answer
abbrev pub in82 : Outcome → Bool
in82 o = byte o.answer 0 is 0x82

-- answers this type with 81h
abbrev pub answers81 : ℕ → Reader
answers81 type s image m room = let o = exchange s image m room in type_byte m is type and in82 o ⇒ marking 0 0x81 o ⁏ o

-- answers this type with 81h where it fails
abbrev pub failure81 : ℕ → Reader
failure81 type s image m room = let o = exchange s image m room in type_byte m is type and failed o ⇒ marking 0 0x81 o ⁏ o

-- says 00h in byte 9 of every 82h
abbrev pub protocol_none : Reader
protocol_none s image m room = let o = exchange s image m room in in82 o ⇒ marking 9 0 o ⁏ o

-- tells the clock in byte 9 of 82h, as in 81h
abbrev pub clock_in82 : Reader
clock_in82 s image m room = let o = exchange s image m room in in82 o ⇒ marking 9 (o.slot.active ⇒ 0 ⁏ 1) o ⁏ o

-- tells the protocol number before the call
abbrev pub protocol_before : Reader
protocol_before s image m room = let o = exchange s image m room in in82 o and not (failed o) ⇒ marking 9 (protocol_of s.set) o ⁏ o

-- tells the protocol number where an 82h failed too
abbrev pub failure_protocol : Reader
failure_protocol s image m room = let o = exchange s image m room in in82 o and failed o ⇒ marking 9 (protocol_of o.slot.set) o ⁏ o

-- tells the parameters where an 82h failed too
abbrev pub failure_tells : Reader
failure_tells s image m room = let o = exchange s image m room in in82 o and failed o ⇒ telling (bytes_of o.slot.set) o ⁏ o

-- tells the parameters before the call at this type
abbrev pub tells_old : ℕ → Reader
tells_old type = upon type λ s image o. telling (bytes_of s.set) o

-- tells no parameters at this type
abbrev pub tells_none : ℕ → Reader
tells_none type = upon type λ s image o. telling [] o

-- tells seven bytes of T=0 too
abbrev pub tells_seven : Reader
tells_seven = upon 0x6C λ s image o. telling (series (byte_of s.set) 1 7) o

-- tells five bytes of T=1 too
abbrev pub tells_five : Reader
tells_five = upon 0x6C λ s image o. telling (series (byte_of s.set) 1 5) o

-- ---- what is left
-- stores a set before its fault is seen
abbrev pub stores_faulty : Reader
stores_faulty s image m room = let o = exchange s image m room in type_byte m is 0x61 and failed o ⇒ slotting (set_as (set_of m) s) o ⁏ o

-- leaves the parameters as they were at this type
abbrev pub keeps_set : ℕ → Reader
keeps_set type = upon type λ s image o. slotting (set_as s.set o.slot) o

-- brings the default back at this type
abbrev pub brings_default : ℕ → Reader
brings_default type = upon type λ s image o. slotting (defaulted o.slot) o

-- brings the default back where a message fails
abbrev pub failure_resets : Reader
failure_resets s image m room = let o = exchange s image m room in failed o ⇒ slotting (defaulted o.slot) o ⁏ o

-- brings the default back at a select
abbrev pub select_resets : Reader
select_resets = doing 0xA4 λ f s image d e. stands (defaulted e.slot) e

-- powers the card off where parameters are set
abbrev pub set_powers_off : Reader
set_powers_off = upon 0x61 λ s image o. slotting (powered false o.slot) o

-- keeps the parameters that the slot had at an insertion
abbrev pub insert_keeps_set : Inserter
insert_keeps_set = upon_insert λ f s o. slotting (set_as s.set o.slot) o

-- keeps the parameters at a removal
abbrev pub remove_keeps_set : Remover
remove_keeps_set s = set_as s.set removed

-- ---- number 4
-- lets a stored set through that 61h refuses
abbrev pub any_set : Reader
any_set = vetting λ s image.
    page_size s.page and empty_sound s and idle_sound s and type_sound s and open_sound s image and (occupied s.holds or s.set is default_set)
    and counts_sound s image

-- does not look at the two bytes that T=0 lacks
abbrev pub tail_unseen : Reader
tail_unseen = vetting λ s image.
    page_size s.page and empty_sound s and idle_sound s and type_sound s and open_sound s image and occupied s.holds and counts_sound s image
    and takes (protocol_of s.set is 0 ⇒ byte_put 6 0 (byte_put 7 0 s.set) ⁏ s.set)

-- lets a slot without a card through whose parameters are not the default
abbrev pub empty_set : Reader
empty_set = vetting λ s image. page_size s.page and empty_sound s and idle_sound s and type_sound s and open_sound s image and takes s.set and counts_sound s image

-- turns every slot down whose parameters are not the default
abbrev pub default_alone : Reader
default_alone s image m room =
    let o = exchange s image m room in
    o.number is 0 and s.set isnt default_set ⇒ turned_down Refusal.Record s image
    ⁏ o
