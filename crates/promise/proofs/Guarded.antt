-- Visits of all four kinds with protection bits meet what the theorems on protected bytes speak of, and cards without a code are put in: the
-- rules are computed.
use mathlib.Core.Path.{◌≡◌, refl}
use mathlib.Core.Bool.{false}
use mathlib.Core.List.{List}
use Prim.Native.Nat.{ℕ, ◌<◌}
use native.Mathlib.Omega.{arith}
use Rattle.words.specs.Bytes.{byte}
use Rattle.chips.specs.declared.Chip.TheVariants.{Sle4418, Sle4432}
use Rattle.slot.specs.Slots.{removed}
use Rattle.bits.specs.Bits.{carries}
use Rattle.reader.specs.Runs.{Sent}
use Rattle.reader.specs.Rules.{rules}
use Rattle.reader.specs.Heard.{heard}
use Rattle.vectors.specs.Sessions.{lent, image4442, image4428, transfer}
use Rattle.vectors.specs.Plain.{image4418, image4432}
use Rattle.promise.specs.Tries.{run_from}
use Rattle.promise.specs.Protected.{protects, some_protects}
use Rattle.promise.specs.Guarded.{as_guarded, unguarded, guard_visits}
use Rattle.promise.proofs.Plain.{never_open, zeros_remain}

-- every row of the table
pub guards_hold : unguarded 1 guard_visits ≡ 0
unfolding rules heard carries protects some_protects lent image4442 image4428 transfer image4418 image4432 as_guarded unguarded guard_visits
guards_hold = refl

-- both are put in: whatever is sent then, they stay closed, and the SLE4432's last four bytes 00h
pub closed4418 : (ms : List Sent) → (run_from removed 21 image4418 ms).slot.«open» ≡ false
unfolding rules image4418
closed4418 ms = never_open Sle4418 refl removed 21 image4418 ms refl refl

pub closed4432 : (ms : List Sent) → (run_from removed 31 image4432 ms).slot.«open» ≡ false
unfolding rules image4432
closed4432 ms = never_open Sle4432 refl removed 31 image4432 ms refl refl

pub zeros4432 : (ms : List Sent) (k : ℕ) → 259 < k → byte (run_from removed 31 image4432 ms).image k ≡ 0
unfolding rules image4432
zeros4432 ms k h = zeros_remain Sle4432 k (omega arith) removed 31 image4432 ms refl refl
