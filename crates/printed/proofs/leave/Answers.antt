-- `leave` meets its contract: `bad` is laid over the buffer, or nothing is.
use mathlib.Core.Path.{sym, ◌∙◌}
use native.Mathlib.Omega.{arith}
use Rattle.words.proofs.Choices.{first, rest}
use Rattle.lines.specs.Text.{text}
use Rattle.lines.proofs.LineLaws.{puts_none, puts_laid}
use Rattle.printed.specs.Printed.{parting}
use Rattle.printed.proofs.leave.Goals as goal

pub returns-then-is_bad : goal.returns-then-is_bad
unfolding parting
returns-then-is_bad c =
    let is = sym c.is_bad.ensures ∙ c.if-is_bad.true in
    puts_laid (text "bad\n") (omega arith) (first _ _ is) c.lay.ensures

pub returns : goal.returns
unfolding parting
returns c = puts_none c.args.out.now (rest _ _ (sym c.is_bad.ensures ∙ c.if-is_bad.false))
