-- Which messages are heard, and by which a code reaches the card.
use Rattle.std.specs.Prelude.{ℕ, Bool, true, false, List, length, leb}
use Rattle.words.specs.Choice.{◌and◌}
use Rattle.words.specs.Bounds.{least_room}
use Rattle.chips.specs.declared.Facts.{Facts}
use Rattle.slot.specs.declared.Slot.{Slot}
use Rattle.sound.specs.Sound.{image_is_card, sound}
use Rattle.steps.specs.Steps.{order, presents}
use Rattle.std.specs.Prelude.{Option}
use Rattle.faults.specs.declared.Fault.{Fault}
use Rattle.faults.specs.declared.Request.{Request}
use Rattle.faults.specs.declared.Request.TheVariants.{SetParameters, PowerOn, PowerOff, SlotStatus, GetParameters, ResetParameters, Transfer, Unsupported}
use Rattle.faults.specs.Faults.{type_byte, apdu, request_of, fault_of, is_clear}
use Rattle.reader.specs.Runs.{Sent}

-- what the message asks for, and what is wrong with it
abbrev pub requested : Sent → Request
requested m = request_of (type_byte m.message)

abbrev pub faulted : Slot → Sent → Option Fault
faulted s m = fault_of (requested m) s m.message

-- the message is answered (tests 1 to 4), and has no fault
unfoldable pub heard : Slot → List ℕ → Sent → Bool
heard s image m =
    leb least_room m.room
    and leb 10 (length m.message)
    and image_is_card s.holds image
    and sound s image
    and is_clear (faulted s m)

-- it is a transfer
abbrev pub transfers : Request → Bool
transfers SetParameters = false
transfers PowerOn = false
transfers PowerOff = false
transfers SlotStatus = false
transfers GetParameters = false
transfers ResetParameters = false
transfers Transfer = true
transfers Unsupported = false

-- "a code reached the card exactly when steps 1 to 10 let its command 20 through"; 02: "step 10 goes"
unfoldable pub reached : Facts → Slot → List ℕ → Sent → Bool
reached f s image m =
    heard s image m
    and transfers (requested m)
    and presents (order f s (apdu m.message))
