-- `digit` meets its contract: 0 to 9, or a to f.
use mathlib.Core.Path.{refl}
use borrow.Author.Tests.{lt-ltb, le-ltb}
use Rattle.words.proofs.Choices.{taken, passed}
use Rattle.lines.specs.Lines.{digit_of}
use Rattle.lines.proofs.digit.Goals as goal

pub returns-then-d-lt10 : goal.returns-then-d-lt10
unfolding digit_of
returns-then-d-lt10 c = taken _ (lt-ltb _ 10 c.if-d-lt10.true)

pub returns : goal.returns
unfolding digit_of
returns c = passed _ (le-ltb _ 10 c.if-d-lt10.false) refl
