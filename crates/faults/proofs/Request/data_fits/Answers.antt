-- `data_fits` meets its contract: each arm is its line of the table.
use mathlib.Core.Path.{refl, ◌∙◌}
use borrow.Author.Tests.{eq-eqb, ne_eqb}
use Rattle.words.proofs.Choices.{or_taken, or_passed}
use Rattle.faults.proofs.Request.data_fits.Goals as goal

pub returns-then-n-eq5 : goal.returns-then-n-eq5
returns-then-n-eq5 c = let e = eq-eqb _ 5 c.if-n-eq5.true in rw c.in-SetParameters.is (e ∙ or_taken _ e)

pub returns-else-n-eq5 : goal.returns-else-n-eq5
returns-else-n-eq5 c = rw c.in-SetParameters.is (or_passed (ne_eqb _ 5 c.if-n-eq5.false) refl)
