-- `mark_of` meets its contract: each arm is its line of the table.
use Rattle.std.proofs.Common.{refl, sym, ap, arith}
use borrow.Author.Tests.{ne_eqb}
use Rattle.words.specs.Choice.{◌⇒◌⁏◌}
use Rattle.words.proofs.Choices.{passed}
use Rattle.records.specs.Records.{mark_of}
use Rattle.records.proofs.mark_of.Goals as goal

pub returns-in-17225 : goal.returns-in-17225
unfolding mark_of ◌⇒◌⁏◌
returns-in-17225 c = sym (ap mark_of c.in-17225.is)

pub returns-in-17231 : goal.returns-in-17231
unfolding mark_of ◌⇒◌⁏◌
returns-in-17231 c = sym (ap mark_of c.in-17231.is)

pub returns-in-20301 : goal.returns-in-20301
unfolding mark_of ◌⇒◌⁏◌
returns-in-20301 c = sym (ap mark_of c.in-20301.is)

pub returns-in_default : goal.returns-in_default
unfolding mark_of
returns-in_default c = passed _ (ne_eqb _ 0x4349 (omega arith)) (passed _ (ne_eqb _ 0x434F (omega arith)) (passed _ (ne_eqb _ 0x4F4D (omega arith)) refl))
