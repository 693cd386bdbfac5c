-- `tell` meets its contract: failed, or the parameters told behind the header.
use mathlib.Core.Path.{refl, sym, ap}
use mathlib.Core.Bool.{not}
use native.Mathlib.Omega.{arith}
use Rattle.words.proofs.Lists.{lent_tail}
use Rattle.sets.specs.Sets.{bytes_of}
use Rattle.frame.specs.Exchange.{told}
use Rattle.frame.proofs.AnswerLaws.{gives_failed, gives_done, sealed_type, sealed_clear, names_0}
use Rattle.params.proofs.tell.Goals as goal

pub returns-then-is_some : goal.returns-then-is_some
returns-then-is_some c image type does =
    let a = c.args in
    gives_failed a.request a.slot image a.msg.now c.fault_of-fault.ensures a.answer.now (ap not (sym c.if-is_some.ensures)) (omega arith)
    (sealed_type (sym type) c.seal.ensures)

pub seal_done-requires-clause-slot_0 : goal.seal_done-requires-clause-slot_0
seal_done-requires-clause-slot_0 c = names_0 _ _ _ c.fault_of-fault.ensures (ap not (sym c.if-is_some.ensures))

pub returns : goal.returns
returns c image type does =
    let a = c.args in
    let put = c.put_set-len.ensures in
    let clear = ap not (sym c.if-is_some.ensures) in
    gives_done a.request a.slot image a.msg.now c.fault_of-fault.ensures a.answer.now (told a.next image) clear does put.0 (omega arith)
    (lent_tail 10 a.answer.now (bytes_of a.next.set) put.1) refl (sealed_type (sym type) (sealed_clear clear c.seal_done.ensures))
