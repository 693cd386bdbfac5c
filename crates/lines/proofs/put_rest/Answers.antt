-- `put_rest` meets its contract: a blank, the answer in hex and the line's end, or the line's end alone.
use mathlib.Core.Path.{ap}
use mathlib.Core.Bool.{Bool}
use native.Mathlib.Omega.{arith}
use Rattle.lines.specs.Lines.{ending}
use Rattle.lines.proofs.LineLaws.{puts_length, puts_is, puts_first, hex_puts, rest_shown, rest_whole}
use Rattle.lines.proofs.put_rest.Goals as goal

pub bounds-out-last : goal.bounds-out-last
bounds-out-last c =
    let a = c.args in
    let h = c.put_hex-n.ensures in
    omega (arith, hex_puts a.answer.now h, puts_length (rest_shown a.answer.now a.out.now (omega arith) h))

pub returns-then-show : goal.returns-then-show
returns-then-show c =
    let a = c.args in
    let h = c.put_hex-n in
    puts_is (ap (λ (b : Bool). ending b a.answer.now) c.if-show.true)
    (rest_whole a.answer.now h.result (omega arith) (rest_shown a.answer.now a.out.now (omega arith) h.ensures))

pub returns : goal.returns
returns c =
    let a = c.args in
    puts_is (ap (λ (b : Bool). ending b a.answer.now) c.if-show.false) (puts_first a.out.now 0x0A (omega arith))
