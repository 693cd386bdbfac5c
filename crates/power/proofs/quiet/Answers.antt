-- `quiet` meets its contract: failed, or the next slot behind the header.
use mathlib.Core.Path.{sym, ap}
use mathlib.Core.Bool.{not}
use native.Mathlib.Omega.{arith}
use Rattle.frame.proofs.AnswerLaws.{gives_failed, gives_quiet, sealed_type, sealed_clear, names_0}
use Rattle.power.proofs.quiet.Goals as goal

pub returns-then-is_some : goal.returns-then-is_some
returns-then-is_some c image type does =
    let a = c.args in
    gives_failed a.request a.slot image a.msg.now c.fault_of-fault.ensures a.answer.now (ap not (sym c.if-is_some.ensures)) (omega arith)
    (sealed_type (sym type) c.seal.ensures)

pub seal_done-requires-clause-slot_0 : goal.seal_done-requires-clause-slot_0
seal_done-requires-clause-slot_0 c = names_0 _ _ _ c.fault_of-fault.ensures (ap not (sym c.if-is_some.ensures))

pub returns : goal.returns
returns c image type does =
    let a = c.args in
    let clear = ap not (sym c.if-is_some.ensures) in
    gives_quiet a.request a.slot image a.msg.now c.fault_of-fault.ensures a.answer.now a.next clear does (omega arith)
    (sealed_type (sym type) (sealed_clear clear c.seal_done.ensures))
