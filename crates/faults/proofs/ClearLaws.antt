-- What a message without a fault may count on.
use Prim.Native.Nat.{ℕ}
use mathlib.Core.Path.{◌≡◌, refl}
use mathlib.Core.Bool.{true, false, true≢false, false≢true}
use mathlib.Core.List.{List}
use Rattle.std.specs.Prelude.{Option, Some, None, is_some, option_map}
use borrow.Author.Tests.{eqb-true, not-false}
use Rattle.words.specs.Choice.{◌isnt◌}
use Rattle.words.proofs.Choices.{either, past}
use Rattle.slot.specs.declared.Slot.{Slot}
use Rattle.faults.specs.declared.Request.{Request}
use Rattle.faults.specs.declared.Fault.{Fault}
use Rattle.faults.specs.Faults.{b_slot, bad_field, ready, fault_of, is_clear}

-- no fault is one fault
pub clear_is : (f : Option Fault) → is_clear f ≡ true → f ≡ None
clear_is None e = refl
clear_is (Some fault) e = absurd (false≢true e)

-- a message without a fault names slot 0, has no wrong field, and met a slot that is ready for it
record Met (r : Request) (s : Slot) (m : List ℕ) (f : Option Fault) : Type 0 where
  met : is_clear f ≡ true → (b_slot m ≡ 0) × (bad_field r m ≡ None) × (ready r s ≡ true)

-- a field that is wrong is a fault
field_none : (at : Option ℕ) → is_some at ≡ false → at ≡ None
field_none None e = refl
field_none (Some at) e = absurd (true≢false e)

field_met : (at : Option ℕ) → is_some at ≡ true → is_clear (option_map Fault.Field at) ≡ true → ⊥
field_met None h e = false≢true h
field_met (Some at) h e = false≢true e

fault_met : (r : Request) (s : Slot) (m : List ℕ) → Met r s m (fault_of r s m)
unfolding fault_of
fault_met r s m =
    past (Met r s m) _ (record { met = no })
    (λ _. past (Met r s m) _ (record { met = no }) (λ _. past (Met r s m) _ (record { met = no }) (λ _.
    past (Met r s m) (b_slot m isnt 0) (record { met = no }) (λ j.
    either (Met r s m) (is_some (bad_field r m)) (λ h. record { met = λ e. absurd (field_met (bad_field r m) h e) }) (λ k.
    either (Met r s m) _ (λ _. record { met = no }) (λ e. record { met = λ _. (eqb-true _ 0 (not-false _ j), field_none (bad_field r m) k, not-false _ e) }))))))
  where
    no : false ≡ true → (b_slot m ≡ 0) × (bad_field r m ≡ None) × (ready r s ≡ true)
    no e = absurd (false≢true e)

pub clear_slot : (r : Request) (s : Slot) (m : List ℕ) → is_clear (fault_of r s m) ≡ true → b_slot m ≡ 0
clear_slot r s m e = ((fault_met r s m).met e).0

pub clear_field : (r : Request) (s : Slot) (m : List ℕ) → is_clear (fault_of r s m) ≡ true → bad_field r m ≡ None
clear_field r s m e = ((fault_met r s m).met e).1

pub clear_ready : (r : Request) (s : Slot) (m : List ℕ) → is_clear (fault_of r s m) ≡ true → ready r s ≡ true
clear_ready r s m e = ((fault_met r s m).met e).2
