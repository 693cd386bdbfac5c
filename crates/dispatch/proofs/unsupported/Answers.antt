-- `unsupported` meets its contract: the first fault, and nothing is done.
use mathlib.Core.Path.{refl}
use native.Mathlib.Omega.{arith}
use Rattle.std.specs.Prelude.{Some}
use Rattle.words.proofs.Choices.{taken}
use Rattle.faults.specs.declared.Request.TheVariants.{Unsupported}
use Rattle.faults.specs.Faults.{fault_of}
use Rattle.faults.specs.declared.Fault.{Fault}
use Rattle.frame.proofs.AnswerLaws.{gives_failed}
use Rattle.dispatch.proofs.unsupported.Goals as goal

pub returns : goal.returns
unfolding fault_of
returns c =
    λ image. gives_failed Unsupported c.args.slot image c.args.msg.now {f = Some Fault.Unknown} (taken _ refl)
    c.args.answer.now refl (omega arith) c.seal.ensures
