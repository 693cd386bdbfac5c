-- From the insertion on, whether a message is heard is its room, its length and that it has no fault, and whether a code reaches the card is
-- told by the message and by what the slot says of power and type: the history looks at no byte of the image but the code's.
use Prim.Native.Nat.{ℕ}
use mathlib.Core.Path.{◌≡◌, ap}
use mathlib.Core.Bool.{Bool}
use mathlib.Core.List.{List}
use Rattle.words.specs.Choice.{◌and◌}
use Rattle.chips.specs.declared.Chip.{Chip}
use Rattle.chips.specs.Kinds.{facts}
use Rattle.slot.specs.declared.Slot.{Slot}
use Rattle.steps.specs.Steps.{order, presents}
use Rattle.faults.specs.Faults.{apdu}
use Rattle.reader.specs.Runs.{Sent}
use Rattle.reader.specs.Proper.{Proper}
use Rattle.reader.specs.Heard.{requested, heard, transfers, reached}
use Rattle.reader.proofs.Kept.{insertion_proper}
use Rattle.promise.specs.Tries.{unfaulted, PutIn, run_from}
use Rattle.promise.proofs.RunLaws.{run_proper}

-- of a slot and an image as a reader keeps them
pub proper_heard : (s : Slot) (image : List ℕ) (m : Sent) → Proper s image → heard s image m ≡ unfaulted s m
unfolding heard unfaulted ◌and◌
proper_heard s image m p = cc

module _ (chip : Chip) (s : Slot) (kind : ℕ) (image : List ℕ) (p : PutIn chip s kind image) (ms : List Sent) (m : Sent) where
  abbrev now : Slot
  now = (run_from s kind image ms).slot

  abbrev holds : List ℕ
  holds = (run_from s kind image ms).image

  pub heard_alone : heard now holds m ≡ unfaulted now m
  heard_alone = proper_heard now holds m (run_proper _ _ ms (insertion_proper s kind image p.accepted))

  pub reached_alone : reached (facts chip) now holds m ≡ (unfaulted now m and transfers (requested m) and presents (order (facts chip) now (apdu m.message)))
  unfolding reached
  reached_alone = ap (λ (b : Bool). b and transfers (requested m) and presents (order (facts chip) now (apdu m.message))) heard_alone
