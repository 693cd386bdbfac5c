-- The raw slot record, 32 bytes: what is written, and what any bytes are read as.
use Rattle.std.specs.Prelude.{ℕ, ◌+◌, ◌*◌, Bool, true, false, not, List, [], ◌∷◌, ◌++◌, length, drop, replicate, ltb, Option, Result, Some, None, Ok, Err}
use Rattle.words.specs.Choice.{◌⇒◌⁏◌, ◌is◌, ◌isnt◌}
use Rattle.words.specs.Bytes.{byte, blank, eight_at, low_first}
use Rattle.chips.specs.Kinds.{facts, chip_of}
use Rattle.slot.specs.declared.Slot.{Slot}
use Rattle.slot.specs.Slots.{slotted}
use Rattle.record.specs.declared.Flaw.{Flaw}
use Rattle.chips.specs.declared.Chip.{Chip}

-- ---- what is written
-- "kind (0 none)"
abbrev pub kind_of : Option Chip → ℕ
kind_of None = 0
kind_of (Some chip) = (facts chip).kind

-- "active (0 or 1)", "open (0 or 1)"; the flag of the page likewise
abbrev pub flag_of : Bool → ℕ
flag_of true = 1
flag_of false = 0

-- what of a slot a message may change: "active, selected type, reader page, open", the parameters: protocol number, then seven bytes; tries left,
-- the number of protected bytes, low first, and whether the page was chosen
abbrev pub state_of : Slot → List ℕ
state_of s = flag_of s.active ∷ s.selected ∷ s.page ∷ flag_of s.«open» ∷ low_first 7 s.set ++ (s.tries ∷ low_first 1 s.protected ++ (flag_of s.chosen ∷ []))

-- "kind, active, selected type, reader page, open", the parameters, the two counts, the flag of the page, "the rest 00h"
unfoldable pub raw_of : Slot → List ℕ
raw_of s = kind_of s.holds ∷ state_of s ++ replicate 15 0

-- ---- what is read
abbrev pub slot_from : Option Chip → List ℕ → Slot
slot_from h r = slotted h (byte r 1 is 1) (byte r 2) (byte r 3) (byte r 4 is 1) (eight_at r 5) (byte r 13) (byte r 14 + 256 * byte r 15) (byte r 16 is 1)

-- "A record of another length, a byte where only 0 or 1 may stand, a rest byte not 00h": broken. What it holds is told by the kind byte.
unfoldable pub slot_with : Option Chip → List ℕ → Result Slot Flaw
slot_with h r =
    length r isnt 32 ⇒ Err (Flaw.Broken h)
    ⁏ ltb 1 (byte r 1) ⇒ Err (Flaw.Broken h)
    ⁏ ltb 1 (byte r 4) ⇒ Err (Flaw.Broken h)
    ⁏ ltb 1 (byte r 16) ⇒ Err (Flaw.Broken h)
    ⁏ not (blank (drop 17 r)) ⇒ Err (Flaw.Broken h)
    ⁏ Ok (slot_from h r)

unfoldable pub card_with : Option Chip → List ℕ → Result Slot Flaw
card_with (Some chip) r = slot_with (Some chip) r
card_with None r = Err Flaw.Unknown

-- any bytes: "A kind byte that is no kind" comes first
unfoldable pub slot_of : List ℕ → Result Slot Flaw
slot_of r = byte r 0 is 0 ⇒ slot_with None r ⁏ card_with (chip_of (byte r 0)) r
