-- `cut_start` meets its contract: its test is the rule's.
use mathlib.Core.Path.{refl}
use borrow.Author.Tests.{eq-eqb, ne_eqb}
use Rattle.words.proofs.Choices.{taken, passed}
use Rattle.pages.specs.Pages.{cut_start}
use Rattle.pages.proofs.cut_start.Goals as goal

pub returns-then-a-reader-eq0 : goal.returns-then-a-reader-eq0
unfolding cut_start
returns-then-a-reader-eq0 c = taken _ (eq-eqb _ 0 c.if-a-reader-eq0.true)

pub returns-else-a-reader-eq0 : goal.returns-else-a-reader-eq0
unfolding cut_start
returns-else-a-reader-eq0 c = passed _ (ne_eqb _ 0 c.if-a-reader-eq0.false) refl
