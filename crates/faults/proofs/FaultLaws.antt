-- A law for each fault: how far a message has come that has none of the faults so far, and where it stops.
use Prim.Native.Nat.{ℕ, ◌-◌}
use mathlib.Core.Path.{◌≡◌, sym, ap, ◌∙◌}
use mathlib.Core.List.{List}
use mathlib.Core.Bool.{true, false, not}
use mathlib.Core.Logic.{◌≢◌}
use lib.ListN.{length}
use Rattle.std.specs.Prelude.{Option, Some, None, is_some, option_map}
use borrow.Author.Tests.{eq-eqb, ne_eqb}
use Rattle.words.specs.Choice.{◌⇒◌⁏◌, ◌isnt◌}
use Rattle.words.proofs.Choices.{first, rest}
use Rattle.slot.specs.declared.Slot.{Slot}
use Rattle.faults.specs.declared.Request.{Request}
use Rattle.faults.specs.declared.Fault.{Fault}
use Rattle.faults.specs.Faults.{dw_length, b_slot, supported, data_fits, bad_field, ready, fault_of}

module _ (r : Request) (s : Slot) (m : List ℕ) where
  -- ---- the chain from a fault on
  abbrev from5 : Option Fault
  from5 = not (ready r s) ⇒ Some Fault.Card ⁏ None

  abbrev from4 : Option Fault
  from4 = is_some (bad_field r m) ⇒ option_map Fault.Field (bad_field r m) ⁏ from5

  abbrev from3 : Option Fault
  from3 = b_slot m isnt 0 ⇒ Some Fault.OtherSlot ⁏ from4

  -- fault 2 has two tests: dwLength against the message, and against its type
  abbrev from_type : Option Fault
  from_type = not (data_fits r (dw_length m)) ⇒ Some Fault.Length ⁏ from3

  abbrev from2 : Option Fault
  from2 = dw_length m isnt (length m - 10) ⇒ Some Fault.Length ⁏ from_type

  -- ---- how far a message has come
  pub record Free1 : Type 0 where
    pub left : fault_of r s m ≡ from2

  pub record Free2 : Type 0 where
    pub left : fault_of r s m ≡ from_type

  pub record FreeType : Type 0 where
    pub left : fault_of r s m ≡ from3

  pub record Free3 : Type 0 where
    pub left : fault_of r s m ≡ from4

  pub record Free4 : Type 0 where
    pub left : fault_of r s m ≡ from5

module _ {r : Request} {s : Slot} {m : List ℕ} where
  pub free1 : supported r ≡ true → Free1 r s m
  unfolding fault_of
  free1 e = record { left = rest _ _ (ap not e) }

  pub free2 : Free1 r s m → dw_length m ≡ length m - 10 → Free2 r s m
  free2 o e = record { left = o.left ∙ rest _ _ (ap not (eq-eqb _ _ e)) }

  pub free_type : Free2 r s m → data_fits r (dw_length m) ≡ true → FreeType r s m
  free_type o e = record { left = o.left ∙ rest _ _ (ap not e) }

  pub free3 : FreeType r s m → b_slot m ≡ 0 → Free3 r s m
  free3 o e = record { left = o.left ∙ rest _ _ (ap not (eq-eqb _ _ e)) }

  pub free4 : Free3 r s m → bad_field r m ≡ None → Free4 r s m
  free4 o e = record { left = o.left ∙ rest _ _ (ap is_some e) }

  pub free5 : Free4 r s m → ready r s ≡ true → None ≡ fault_of r s m
  free5 o e = sym (o.left ∙ rest _ _ (ap not e))

  -- ---- a fault
  pub fault2 : Free1 r s m → dw_length m ≢ length m - 10 → Some Fault.Length ≡ fault_of r s m
  fault2 o e = sym (o.left ∙ first _ _ (ap not (ne_eqb _ _ e)))

  pub fault_type : Free2 r s m → data_fits r (dw_length m) ≡ false → Some Fault.Length ≡ fault_of r s m
  fault_type o e = sym (o.left ∙ first _ _ (ap not e))

  pub fault3 : FreeType r s m → b_slot m ≢ 0 → Some Fault.OtherSlot ≡ fault_of r s m
  fault3 o e = sym (o.left ∙ first _ _ (ap not (ne_eqb _ _ e)))

  pub fault4 : {at : ℕ} → Free3 r s m → bad_field r m ≡ Some at → Some (Fault.Field at) ≡ fault_of r s m
  fault4 o e = sym (o.left ∙ first _ _ (ap is_some e) ∙ ap (option_map Fault.Field) e)

  pub fault5 : Free4 r s m → ready r s ≡ false → Some Fault.Card ≡ fault_of r s m
  fault5 o e = sym (o.left ∙ first _ _ (ap not e))

pub fault1 : (r : Request) (s : Slot) (m : List ℕ) → supported r ≡ false → Some Fault.Unknown ≡ fault_of r s m
unfolding fault_of
fault1 r s m e = sym (first _ _ (ap not e))
