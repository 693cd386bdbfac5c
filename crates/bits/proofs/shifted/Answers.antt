-- `shifted` meets its contract: what leaves the ninth byte fills the room that the eight leave at the top, so that the sum does not wrap.
use native.Mathlib.Omega.{arith}
use Rattle.words.proofs.Numbers.{shift_in}
use borrow.Author.Rules.{rules}
use Rattle.bits.proofs.shifted.Goals as goal

pub overflow_add-result : goal.overflow_add-result
overflow_add-result c =
    let a = c.args in
    record { fits = omega (arith, shift_in a.shift a.low a.high (search rules) (search rules) (search rules)) }

pub returns : goal.returns
returns c =
    let a = c.args in
    shift_in a.shift a.low a.high (search rules) (search rules) (search rules)
