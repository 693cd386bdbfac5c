-- Sessions of our own with the three messages of parameters, in the form of the starred ones: the whole answers, worked by hand from 02.
use Rattle.std.specs.Prelude.{ℕ, false, List, [], ◌∷◌, ◌++◌, length, set, replicate}
use Rattle.words.specs.Bytes.{four_bytes}
use Rattle.slot.specs.Slots.{removed}
use Rattle.vectors.specs.Sessions.{Row, on4442}

-- a type with no data; 61h with a protocol number and bytes; all to slot 0 with bSeq 0
abbrev pub dataless : ℕ → List ℕ
dataless type = type ∷ replicate 9 0

unfoldable pub setting : ℕ → List ℕ → List ℕ
setting protocol d = 0x61 ∷ four_bytes (length d) ++ (0 ∷ 0 ∷ protocol ∷ 0 ∷ 0 ∷ d)

-- 82h of an active card with a protocol number and bytes; one that failed, with its bStatus and bError
unfoldable pub tells82 : ℕ → List ℕ → List ℕ
tells82 protocol d = 0x82 ∷ four_bytes (length d) ++ (0 ∷ 0 ∷ 0x00 ∷ 0x00 ∷ protocol ∷ d)

unfoldable pub fails82 : ℕ → ℕ → List ℕ
fails82 b_status b_error = 0x82 ∷ 0 ∷ 0 ∷ 0 ∷ 0 ∷ 0 ∷ 0 ∷ b_status ∷ b_error ∷ 0 ∷ []

-- the default, and a set of each protocol
abbrev pub default_bytes : List ℕ
default_bytes = 0x11 ∷ 0x00 ∷ 0x00 ∷ 0x0A ∷ 0x00 ∷ []

abbrev pub t0 : List ℕ
t0 = 0x95 ∷ 0x02 ∷ 0x07 ∷ 0x14 ∷ 0x03 ∷ []

abbrev pub t1 : List ℕ
t1 = 0x18 ∷ 0x13 ∷ 0xFF ∷ 0x9D ∷ 0x01 ∷ 0xFE ∷ 0x00 ∷ []

unfoldable pub parameter_rows : List Row
parameter_rows =
    -- 1. asked, the default; set and asked, T=0; set and asked, T=1; reset
    on4442 0x07
    (dataless 0x6C ∷ setting 0 t0 ∷ dataless 0x6C ∷ setting 1 t1 ∷ dataless 0x6C ∷ dataless 0x6D ∷ [])
    (tells82 0 default_bytes ∷ tells82 0 t0 ∷ tells82 0 t0 ∷ tells82 1 t1 ∷ tells82 1 t1 ∷ tells82 0 default_bytes ∷ [])
    0x07 false
    -- 2. power off keeps them: 82h of an inactive card; power on brings the default back
    ∷ on4442 0x07
    (setting 1 t1 ∷ dataless 0x63 ∷ dataless 0x6C ∷ dataless 0x62 ∷ dataless 0x6C ∷ [])
    (tells82 1 t1
    ∷ (0x81 ∷ 0 ∷ 0 ∷ 0 ∷ 0 ∷ 0 ∷ 0 ∷ 0x01 ∷ 0 ∷ 1 ∷ [])
    ∷ set (tells82 1 t1) 7 0x01
    ∷ (0x80 ∷ 0x06 ∷ 0 ∷ 0 ∷ 0 ∷ 0 ∷ 0 ∷ 0 ∷ 0 ∷ 0 ∷ 0x3B ∷ 0x04 ∷ 0xA2 ∷ 0x13 ∷ 0x10 ∷ 0x91 ∷ [])
    ∷ tells82 0 default_bytes
    ∷ [])
    0x07 false
    -- 3. a protocol number that does not fit the length: 07h
    ∷ on4442 0x07
    (setting 1 t0 ∷ setting 0 t1 ∷ setting 2 t0 ∷ setting 0x80 t1 ∷ [])
    (fails82 0x40 0x07 ∷ fails82 0x40 0x07 ∷ fails82 0x40 0x07 ∷ fails82 0x40 0x07 ∷ [])
    0x07 false
    -- 4. FI 7, DI 7: 0Ah; the upper bits of the checksum byte, T=0 and T=1: 0Bh; BWI 10: 0Dh; clock stop 4: 0Eh; NAD 1: 10h; nothing is set
    ∷ on4442 0x07
    (setting 0 (set t0 0 0x71)
    ∷ setting 0 (set t0 0 0x17)
    ∷ setting 0 (set t0 1 0x04)
    ∷ setting 1 (set t1 1 0x14)
    ∷ setting 1 (set t1 3 0xA0)
    ∷ setting 0 (set t0 4 0x04)
    ∷ setting 1 (set t1 6 0x01)
    ∷ dataless 0x6C
    ∷ [])
    (fails82 0x40 0x0A ∷ fails82 0x40 0x0A ∷ fails82 0x40 0x0B ∷ fails82 0x40 0x0B ∷ fails82 0x40 0x0D ∷ fails82 0x40 0x0E ∷ fails82 0x40 0x10 ∷ tells82 0 default_bytes ∷ [])
    0x07 false
    -- 5. dwLength 6, or data behind 6Ch: 01h; bSlot 1: 05h, and the state is that of no card
    ∷ on4442 0x07
    (setting 0 (t0 ++ (0x00 ∷ [])) ∷ (set (dataless 0x6C) 1 0x01 ++ (0x00 ∷ [])) ∷ set (dataless 0x6D) 5 0x01 ∷ [])
    (fails82 0x40 0x01 ∷ fails82 0x40 0x01 ∷ set (fails82 0x42 0x05) 5 0x01 ∷ [])
    0x07 false
    -- 6. no card: FEh
    ∷ record {
      slot = removed;
      image = [];
      messages = setting 0 t0 ∷ dataless 0x6C ∷ dataless 0x6D ∷ [];
      answers = fails82 0x42 0xFE ∷ fails82 0x42 0xFE ∷ fails82 0x42 0xFE ∷ [];
      address = 0;
      bytes = [];
      opened = false;
    }
    ∷ []
