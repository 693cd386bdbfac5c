-- "No answer is longer than 267 bytes", on any record.
use Prim.Native.Nat.{ℕ, ◌≤◌, ◌<◌}
use mathlib.Core.Path.{ap}
use mathlib.Core.List.{List}
use native.Mathlib.Omega.{arith}
use lib.ListN.{length}
use lib.Seq.{get_or-drop}
use Rattle.std.specs.Prelude.{Result, Ok, Err}
use Rattle.words.specs.Choice.{◌isnt◌}
use Rattle.words.specs.Bytes.{byte}
use Rattle.words.specs.Bounds.{longest_answer}
use Rattle.words.proofs.Choices.{past}
use Rattle.slot.specs.declared.Slot.{Slot}
use Rattle.slot.specs.Slots.{removed}
use Rattle.record.specs.declared.Flaw.{Flaw}
use Rattle.record.specs.Raw.{slot_of}
use Rattle.reader.specs.Fronts.{front_of}
use Rattle.reader.proofs.Insertions.{insertion_inserts}
use Rattle.reader.proofs.Short.{served_short}
use Rattle.calls.specs.Calls.{RawOutcome, raw_served, raw_fronted, raw_exchange, raw_insertion, raw_removal}
use Rattle.frame.specs.declared.Refusal.{Refusal}

module _ (r image m : List ℕ) (small : byte m 14 < 256) where
  raw_served_short : (x : Result Slot Flaw) → length (raw_served x r image m).answer ≤ longest_answer
  unfolding raw_served
  raw_served_short (Ok s) = served_short s image m (omega (arith, get_or-drop 10 m 4 0))
  raw_served_short (Err (Flaw.Broken h)) = omega arith
  raw_served_short (Err Flaw.Unknown) = omega arith

  pub raw_short : (room : ℕ) → length (raw_exchange r image m room).answer ≤ longest_answer
  unfolding raw_exchange
  raw_short room = go (front_of m room)
    where
      go : (x : Result ℕ Refusal) → length (raw_fronted x r image m).answer ≤ longest_answer
      go (Err f) = omega arith
      go (Ok n) = raw_served_short (slot_of r)

-- the others answer nothing
pub insertion_short : (r : List ℕ) (kind : ℕ) (image : List ℕ) → length (raw_insertion r kind image).answer ≤ longest_answer
unfolding raw_insertion
insertion_short r kind image =
    let P : RawOutcome → Type 0 = λ o. length o.answer ≤ longest_answer in
    past P (length r isnt 32) (omega arith) (λ _.
    past P (byte r 0 isnt 0) (omega arith) (λ _.
    omega (arith, ap length (insertion_inserts removed kind image).quiet)))

pub removal_short : (r : List ℕ) → length (raw_removal r).answer ≤ longest_answer
unfolding raw_removal
removal_short r = past (λ (o : RawOutcome). length o.answer ≤ longest_answer) (length r isnt 32) (omega arith) (λ _. omega arith)
