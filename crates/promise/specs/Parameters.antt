-- What becomes of the parameters: which message changes them, and what is told of them.
use Rattle.std.specs.Prelude.{ℕ, Bool, true, false, List, [], ◌∷◌, ◌++◌, length}
use Rattle.words.specs.Choice.{◌⇒◌⁏◌, ◌and◌}
use Rattle.sets.specs.Sets.{default_set, set_of}
use Rattle.slot.specs.declared.Slot.{Slot}
use Rattle.faults.specs.declared.Request.{Request}
use Rattle.faults.specs.declared.Request.TheVariants.{SetParameters, PowerOn, PowerOff, SlotStatus, GetParameters, ResetParameters, Transfer, Unsupported}
use Rattle.faults.specs.Faults.{b_slot, b_seq}
use Rattle.frame.specs.Answers.{card_state, header}
use Rattle.reader.specs.Runs.{Sent}
use Rattle.reader.specs.Heard.{requested, heard}

-- "it returns on reset, power on, insertion and removal": what a message that was heard makes of them; 61h stores its own
abbrev pub set_by : Request → List ℕ → ℕ → ℕ
set_by SetParameters m set = set_of m
set_by PowerOn m set = default_set
set_by PowerOff m set = set
set_by SlotStatus m set = set
set_by GetParameters m set = set
set_by ResetParameters m set = default_set
set_by Transfer m set = set
set_by Unsupported m set = set

-- and any message: one that is turned down or fails leaves them
unfoldable pub set_after : Slot → List ℕ → Sent → ℕ
set_after s image m = heard s image m ⇒ set_by (requested m) m.message s.set ⁏ s.set

-- a message but 61h, 62h, 6Dh, and a run of such
abbrev pub leaves_set : Request → Bool
leaves_set SetParameters = false
leaves_set PowerOn = false
leaves_set PowerOff = true
leaves_set SlotStatus = true
leaves_set GetParameters = true
leaves_set ResetParameters = false
leaves_set Transfer = true
leaves_set Unsupported = true

unfoldable pub all_leave : List Sent → Bool
all_leave [] = true
all_leave (m ∷ ms) = leaves_set (requested m) and all_leave ms

-- the answer to a GetParameters message g without a fault that tells a protocol number and its bytes, s being the slot
abbrev pub tells_set : List ℕ → Slot → ℕ → List ℕ → List ℕ
tells_set g s protocol bytes = header 0x82 (length bytes) (b_slot g) (b_seq g) (card_state (b_slot g) s) 0x00 protocol ++ bytes
