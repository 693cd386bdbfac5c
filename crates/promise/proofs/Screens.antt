-- Every visit shows what was worked by hand: the rules are computed. And cards put in meet what the theorems on the counts speak of.
use mathlib.Core.Path.{◌≡◌, refl}
use mathlib.Core.List.{List}
use Prim.Native.Nat.{ℕ}
use Rattle.chips.specs.declared.Chip.TheVariants.{Sle4418, Sle4442}
use Rattle.chips.specs.Kinds.{facts}
use Rattle.slot.specs.Slots.{removed, inserted}
use Rattle.reader.specs.Runs.{Sent}
use Rattle.reader.specs.Rules.{rules}
use Rattle.vectors.specs.Sessions.{lent, image4442, image4428, transfer}
use Rattle.vectors.specs.Plain.{image4418, image4432}
use Rattle.record.specs.Raw.{raw_of}
use Rattle.promise.specs.Tries.{run_from}
use Rattle.promise.specs.Sequences.{Called}
use Rattle.promise.specs.Counted.{tries_shown, protected_shown, Shown}
use Rattle.promise.specs.Screens.{same_lines, as_shown, unshown, screens}
use Rattle.promise.proofs.Visits.{call_put4442}
use Rattle.promise.proofs.Counted.{shown_from, calls_shown_from}

-- every row of the table
pub screens_hold : unshown 1 screens ≡ 0
unfolding rules lent image4442 image4428 transfer image4418 image4432 same_lines as_shown unshown screens
screens_hold = refl

-- a code card and one without are put in: whatever is sent then, the screen shows what the theorem says
pub shown4442 : (ms : List Sent) → Shown (facts Sle4442) (inserted Sle4442 3 0) (image4442 0x07) ms (run_from removed 30 (image4442 0x07) ms).slot.tries
    (run_from removed 30 (image4442 0x07) ms).slot.protected
unfolding rules image4442
shown4442 ms = shown_from Sle4442 removed 30 (image4442 0x07) refl refl ms

pub shown4418 : (ms : List Sent) → Shown (facts Sle4418) (inserted Sle4418 0 0) image4418 ms (run_from removed 21 image4418 ms).slot.tries
    (run_from removed 21 image4418 ms).slot.protected
unfolding rules image4418
shown4418 ms = shown_from Sle4418 removed 21 image4418 refl refl ms

-- and by calls: `card_reader_insert` puts it in
pub called4442 : {ms : List Sent} {r image : List ℕ} → Called (raw_of (inserted Sle4442 3 0)) (image4442 0x07) ms r image
    → Shown (facts Sle4442) (inserted Sle4442 3 0) (image4442 0x07) ms (tries_shown r) (protected_shown r)
unfolding rules image4442
called4442 calls = calls_shown_from Sle4442 30 (raw_of removed) (image4442 0x07) refl call_put4442 calls
