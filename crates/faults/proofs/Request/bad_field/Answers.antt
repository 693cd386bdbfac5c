-- `bad_field` meets its contract: each arm is its line of the table.
use mathlib.Core.Path.{◌≡◌, refl, sym, ap, ◌∙◌}
use mathlib.Core.Bool.{Bool, true, false, not}
use Prim.Native.Nat.{ℕ}
use lib.Dec.{ltb}
use borrow.Author.Tests.{eq-eqb, ne_eqb}
use Rattle.std.specs.Prelude.{Some, None}
use Rattle.std.specs.Bool.{then_some}
use Rattle.words.specs.Choice.{◌⇒◌⁏◌, ◌isnt◌}
use Rattle.words.proofs.Choices.{met, passed}
use Rattle.faults.proofs.Request.bad_field.Goals as goal
use Rattle.faults.proofs.Request.bad_field.Goals.{then-level_low-ne0, else-level_low-ne0}

-- a field that is told where a test holds
told_where : (b : Bool) (at : ℕ) → then_some b at ≡ (b ⇒ Some at ⁏ None)
unfolding ◌⇒◌⁏◌
told_where true at = refl
told_where false at = refl

pub returns-in-PowerOn : goal.returns-in-PowerOn
returns-in-PowerOn c = rw c.in-PowerOn.is (c.then_some.ensures ∙ told_where _ 7 ∙ ap (λ (n : ℕ). ltb 3 n ⇒ Some 7 ⁏ None) c.power_select.ensures)

pub returns-after-level_low-ne0 : goal.returns-after-level_low-ne0
returns-after-level_low-ne0 c =
    let told = c.then_some-in-Transfer.ensures in
    rw c.in-Transfer.is (elim c.if-level_low-ne0.branch [
      | then-level_low-ne0 w ↦
          let some = w.if-level_low-ne0.true in
          met _ (ap not (ne_eqb _ 0 (λ z. some (c.level_low.ensures ∙ z)))) (told ∙ ap (λ (b : Bool). then_some b 8) (w.then_some-is ∙ ap not (ne_eqb _ 0 some)))
      | else-level_low-ne0 w ↦
          let high = w.then_some-is ∙ ap (λ (n : ℕ). n isnt 0) w.level_high.ensures in
          passed _ (ap not (eq-eqb _ 0 (sym c.level_low.ensures ∙ w.if-level_low-ne0.false))) (told ∙ told_where _ 8 ∙ ap (λ (b : Bool). b ⇒ Some 8 ⁏ None) high)
    ])
