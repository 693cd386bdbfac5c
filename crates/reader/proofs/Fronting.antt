-- A message in its two parts is the exchange, and where a slot is meant there are a header and room.
use Prim.Native.Nat.{ℕ, ◌≤◌}
use mathlib.Core.Path.{◌≡◌, refl, sym, ◌∙◌}
use mathlib.Core.List.{List}
use native.Mathlib.Omega.{arith}
use lib.ListN.{length}
use lib.Dec.{ltb}
use borrow.Author.Tests.{ltb-false}
use Rattle.std.specs.Prelude.{Result, Ok, Err}
use Rattle.words.specs.Bounds.{least_room}
use Rattle.words.proofs.Choices.{either, alike, choice_ap}
use Rattle.slot.specs.declared.Slot.{Slot}
use Rattle.frame.specs.declared.Refusal.{Refusal}
use Rattle.frame.specs.Exchange.{Outcome, exchange}
use Rattle.reader.specs.Fronts.{front_of, fronted}

pub exchange_fronted : (s : Slot) (image m : List ℕ) (room : ℕ) → exchange s image m room ≡ fronted (front_of m room) s image m
unfolding exchange front_of
exchange_fronted s image m room =
    let f : Result ℕ Refusal → Outcome = λ x. fronted x s image m in
    sym (choice_ap f (ltb room least_room) _ _ ∙ alike (ltb room least_room) (λ _. refl) (λ _. choice_ap f (ltb (length m) 10) _ _))

-- turned down, no slot is meant
down_no : (r : Refusal) (n : ℕ) → Err r ≡ Ok n → ⊥
down_no r n e = let z : ◌≡◌ {A = ℕ} 0 1 = cc in omega arith

record Passed (m : List ℕ) (room : ℕ) (x : Result ℕ Refusal) : Type 0 where
  passed : (n : ℕ) → x ≡ Ok n → (10 ≤ length m) × (least_room ≤ room)

front_passed : (m : List ℕ) (room : ℕ) → Passed m room (front_of m room)
unfolding front_of
front_passed m room =
    either (Passed m room) (ltb room least_room) (λ _. record { passed = λ n e. absurd (down_no Refusal.Buffer n e) }) (λ r.
    either (Passed m room) (ltb (length m) 10) (λ _. record { passed = λ n e. absurd (down_no Refusal.Message n e) }) (λ l.
    record { passed = λ n e. (ltb-false _ _ l, ltb-false _ _ r) }))

pub slot_meant : (m : List ℕ) (room n : ℕ) → front_of m room ≡ Ok n → (10 ≤ length m) × (least_room ≤ room)
slot_meant m room = (front_passed m room).passed
