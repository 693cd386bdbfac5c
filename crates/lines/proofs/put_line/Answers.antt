-- `put_line` meets its contract: the word, the number, and what stands behind it, laid one after the other.
use native.Mathlib.Omega.{arith}
use Rattle.lines.proofs.LineLaws.{line_whole}
use Rattle.lines.proofs.put_line.Goals as goal

pub returns : goal.returns
returns c =
    let a = c.args in
    let w = c.put_word-n.ensures in
    let r = c.put_rest-more.ensures in
    line_whole a.mark a.number a.answer.now (omega (arith, w.1)) w.0 c.shown-show.ensures r
