-- A command 20 that is let through once is let through again: the steps do not look at whether the card is open, but only at the selected
-- type.
use Rattle.std.specs.Prelude.{Result, Ok, Err}
use mathlib.Core.Path.{◌≡◌, refl, sym, ap, ◌∙◌, subst⁻¹}
use mathlib.Core.Bool.{true, false≢true}
use mathlib.Core.List.{List}
use Prim.Native.Nat.{ℕ}
use Rattle.words.specs.Choice.{◌and◌, ◌is◌}
use Rattle.words.proofs.Choices.{and_fails}
use Rattle.chips.specs.declared.Facts.{Facts}
use Rattle.slot.specs.declared.Slot.{Slot}
use Rattle.steps.specs.declared.Status.{Status}
use Rattle.steps.specs.declared.Order.{Order}
use Rattle.steps.specs.declared.Ins.{Ins}
use Rattle.steps.specs.declared.Ins.TheVariants.{Select, Page, Read, Counter, Bits, Write, Protect, Present, Change, Other}
use Rattle.steps.specs.Steps.{needs_type, ordered, presents, order}
use Rattle.steps.proofs.Decisions.{Passed, Decided, refused, through, decided, passed_order}

-- a test of an order that holds for a presented code alone
pub presents_is : (o : Result Order Status) → presents o ≡ true → o ≡ Ok Order.Present
presents_is (Err status) e = absurd (false≢true e)
presents_is (Ok Order.Select) e = absurd (false≢true e)
presents_is (Ok (Order.Page p)) e = absurd (false≢true e)
presents_is (Ok (Order.Read at n)) e = absurd (false≢true e)
presents_is (Ok (Order.Counter n)) e = absurd (false≢true e)
presents_is (Ok (Order.Bits at n)) e = absurd (false≢true e)
presents_is (Ok (Order.Write at)) e = absurd (false≢true e)
presents_is (Ok (Order.Protect at)) e = absurd (false≢true e)
presents_is (Ok Order.Present) e = refl
presents_is (Ok Order.Change) e = absurd (false≢true e)

-- only INS 20 ends in a presented code
ordered_presents : (i : Ins) (at n v : ℕ) → presents (ordered i at n v) ≡ true → i ≡ Present
ordered_presents Select at n v e = absurd (false≢true e)
ordered_presents Page at n v e = absurd (false≢true e)
ordered_presents Read at n v e = absurd (false≢true e)
ordered_presents Counter at n v e = absurd (false≢true e)
ordered_presents Bits at n v e = absurd (false≢true e)
ordered_presents Write at n v e = absurd (false≢true e)
ordered_presents Protect at n v e = absurd (false≢true e)
ordered_presents Present at n v e = refl
ordered_presents Change at n v e = absurd (false≢true e)
ordered_presents Other at n v e = absurd (false≢true e)

module _ (f : Facts) (s s' : Slot) (d : List ℕ) (type : s'.selected ≡ s.selected) where
  -- what it passed it passes again
  passed_again : {at : ℕ} → Passed f s d Present at → Passed f s' d Present at
  passed_again q = record {
    five = q.five;
    class = q.class;
    ins = q.ins;
    is_known = q.is_known;
    ready = ap (λ (t : ℕ). needs_type Present and t is 0) type ∙ q.ready;
    had = q.had;
    long = q.long;
    measured = q.measured;
    ranged = q.ranged;
    valued = q.valued;
    allowed = sym (and_fails _ refl);
  }

  pub present_again : presents (order f s d) ≡ true → order f s' d ≡ Ok Order.Present
  present_again e = go (decided f s d) e
    where
      go : {o : Result Order Status} → Decided f s d o → presents o ≡ true → order f s' d ≡ Ok Order.Present
      go (refused status) h = absurd (false≢true h)
      go (through i at q) h = passed_order (passed_again (subst⁻¹ (λ (j : Ins). Passed f s d j at) (sym (ordered_presents i _ _ _ h)) q))
