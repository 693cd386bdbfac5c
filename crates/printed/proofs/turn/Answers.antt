-- `turn` meets its contract: the record is done as its outcome says, and the line that is put is of that outcome.
use native.Mathlib.Omega.{arith}
use lib.ListN.{take}
use lib.Seq.{length-take-le}
use Rattle.words.specs.Bounds.{least_room}
use Rattle.sitting.proofs.Holding.{number_small, answer_fits}
use Rattle.printed.proofs.TurnLaws.{turned}
use Rattle.printed.proofs.turn.Goals as goal

pub shared_ref_as_front-put_line : goal.shared_ref_as_front-put_line
shared_ref_as_front-put_line c = omega (arith, answer_fits least_room c.perform-done.ensures (omega arith))

pub put_line-len-requires : goal.put_line-len-requires
put_line-len-requires c =
    let a = c.args in
    let d = c.perform-done in
    let k = number_small a.mark a.body.now a.held.slot (take a.held.size a.image.now) least_room in
    let n = answer_fits least_room d.ensures (omega arith) in
    (omega (arith, d.ensures.number, k), omega (arith, n, length-take-le d.result.len d.new.answer (omega (arith, n))))

pub returns : goal.returns
returns c =
    let d = c.perform-done.ensures in
    turned c.args.mark d c.put_line-len.ensures
