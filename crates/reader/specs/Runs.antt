-- A run of messages: each goes to the slot and the image that the last one left.
use Rattle.std.specs.Prelude.{ℕ, List, [], ◌∷◌}
use Rattle.slot.specs.declared.Slot.{Slot}
use Rattle.frame.specs.Exchange.{Outcome, exchange}

-- a message, and the length of the answer buffer that is lent for it
pub record Sent : Type 0 where
  pub message : List ℕ
  pub room : ℕ

-- what comes of a run: each message's outcome, in order, and the slot and the image at the end
pub record Run : Type 0 where
  pub outcomes : List Outcome
  pub slot : Slot
  pub image : List ℕ

-- what comes of one message of a run
abbrev pub sending : Slot → List ℕ → Sent → Outcome
sending s image m = exchange s image m.message m.room

unfoldable pub run : Slot → List ℕ → List Sent → Run
run s image [] = record { outcomes = []; slot = s; image = image }
run s image (m ∷ ms) =
    let o = sending s image m in
    let r = run o.slot o.image ms in
    record { outcomes = o ∷ r.outcomes; slot = r.slot; image = r.image }
