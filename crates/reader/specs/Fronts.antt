-- A message in two parts: tests 1 and 2, which look at no slot and tell which slot is meant; then what that slot does.
use Rattle.std.specs.Prelude.{ℕ, List, length, ltb, Result, Ok, Err}
use Rattle.words.specs.Choice.{◌⇒◌⁏◌}
use Rattle.words.specs.Bounds.{least_room}
use Rattle.slot.specs.declared.Slot.{Slot}
use Rattle.faults.specs.Faults.{b_slot}
use Rattle.frame.specs.declared.Refusal.{Refusal}
use Rattle.frame.specs.Exchange.{Outcome, turned_down, served}

-- "1: answer buffer under 271 bytes", "2: message under 10 bytes", room being the length of the answer buffer
unfoldable pub front_of : List ℕ → ℕ → Result ℕ Refusal
front_of m room =
    ltb room least_room ⇒ Err Refusal.Buffer
    ⁏ ltb (length m) 10 ⇒ Err Refusal.Message
    ⁏ Ok (b_slot m)

-- what comes of it where the slot that is meant has this record and image
abbrev pub fronted : Result ℕ Refusal → Slot → List ℕ → List ℕ → Outcome
fronted (Err r) s image m = turned_down r s image
fronted (Ok n) s image m = served s image m
