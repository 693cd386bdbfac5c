-- Slot parameters: "T=0 has 5 bytes, T=1 has 7, in the layouts of source documents 002 and 004".
-- A set is one number, low byte first: the protocol number, then the bytes of the layouts in their order. The two that T=0 lacks are 00h.
use Rattle.std.specs.Prelude.{ℕ, ◌/◌, ◌%◌, Bool, not, Option, Some, None, is_none, List, [], ◌∷◌, ltb, leb}
use Rattle.words.specs.Choice.{◌⇒◌⁏◌, ◌and◌, ◌or◌, ◌is◌, ◌isnt◌}
use Rattle.words.specs.Bytes.{byte, number_in, byte_of, series}

-- a protocol number with its bytes
unfoldable pub set_with : ℕ → List ℕ → ℕ
set_with protocol bytes = number_in (protocol ∷ bytes)

-- "Default is T=0 with 11 00 00 0A 00"
unfoldable pub default_set : ℕ
default_set = set_with 0 (0x11 ∷ 0x00 ∷ 0x00 ∷ 0x0A ∷ 0x00 ∷ [])

-- bProtocolNum; then the bytes by their offsets and names in the layouts. Offset 12, the guard time, is asked nothing
abbrev pub protocol_of : ℕ → ℕ
protocol_of set = byte_of set 0

-- 10, bmFindexDindex: FI in the upper four bits, DI in the lower
abbrev pub factors : ℕ → ℕ
factors set = byte_of set 1

-- 11, bmTCCKST0 and bmTCCKST1
abbrev pub checksum : ℕ → ℕ
checksum set = byte_of set 2

-- 13, bWaitingIntegerT0 and bWaitingIntegerT1
abbrev pub waiting : ℕ → ℕ
waiting set = byte_of set 4

-- 14, bClockStop
abbrev pub clock_stop : ℕ → ℕ
clock_stop set = byte_of set 5

-- 15, bIFSC
abbrev pub ifsc : ℕ → ℕ
ifsc set = byte_of set 6

-- 16, bNadValue
abbrev pub nad : ℕ → ℕ
nad set = byte_of set 7

-- "T=0 has 5 bytes, T=1 has 7": five where it is T=0 and nothing stands in the two behind
unfoldable pub length_of : ℕ → ℕ
length_of set = protocol_of set is 0 and ifsc set is 0 and nad set is 0 ⇒ 5 ⁏ 7

abbrev pub bytes_of : ℕ → List ℕ
bytes_of set = series (byte_of set) 1 (length_of set)

-- ---- what SetParameters (61h) takes
-- a protocol number fits the length
unfoldable pub fits_length : ℕ → ℕ → Bool
fits_length protocol n = protocol is 0 and n is 5 or protocol is 1 and n is 7

-- "an FI or DI entry that ISO/IEC 7816-3:1997 reserves", of the sixteen that four bits name: FI 7, 8, 14, 15; DI 0, 7, 10 to 15
abbrev pub reserved_fi : ℕ → Bool
reserved_fi i = i is 7 or i is 8 or leb 14 i

abbrev pub reserved_di : ℕ → Bool
reserved_di i = i is 0 or i is 7 or leb 10 i

-- "checksum byte upper bits not 000000b (T=0) or 000100b (T=1)": the upper six
abbrev pub upper_bits : ℕ → ℕ
upper_bits protocol = protocol is 1 ⇒ 4 ⁏ 0

-- "a T=1 BWI above 9", BWI being the upper four bits
unfoldable pub long_wait : ℕ → ℕ → Bool
long_wait protocol wait = protocol is 1 and ltb 9 (wait / 16)

-- "a protocol number not fitting the length is 07h, then byte offsets 10, 11, 13, 14, 16 in turn give their own offset": the offset of the
-- first byte that is wrong in a SetParameters message of this set and data length
unfoldable pub fault_at : ℕ → ℕ → Option ℕ
fault_at set n =
    not (fits_length (protocol_of set) n) ⇒ Some 7
    ⁏ reserved_fi (factors set / 16) ⇒ Some 10
    ⁏ reserved_di (factors set % 16) ⇒ Some 10
    ⁏ checksum set / 4 isnt upper_bits (protocol_of set) ⇒ Some 11
    ⁏ long_wait (protocol_of set) (waiting set) ⇒ Some 13
    ⁏ ltb 3 (clock_stop set) ⇒ Some 14
    ⁏ nad set isnt 0 ⇒ Some 16
    ⁏ None

-- the set that a SetParameters message names: bProtocolNum at offset 7, the bytes from offset 10 on
unfoldable pub set_of : List ℕ → ℕ
set_of m = set_with (byte m 7) (series (byte m) 10 7)

-- "61h would not take the stored set": it is asked as a message of its own length
unfoldable pub takes : ℕ → Bool
takes set = is_none (fault_at set (length_of set))
