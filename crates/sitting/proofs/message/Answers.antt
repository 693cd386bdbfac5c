-- `message` meets its contract: what the reader gives on the lent front of the image is what is held.
use mathlib.Core.Path.{◌≡◌, refl, ◌∙◌}
use native.Mathlib.Omega.{arith}
use lib.ListN.{length}
use Rattle.sitting.proofs.Holding.{leaves_message}
use lib.Seq.{length-take-le}
use Rattle.sitting.proofs.message.Goals as goal

pub returns : goal.returns
returns c =
    let a = c.args in
    let e : length c.message-reply.new.image ≡ a.size =
    c.message-reply.auto.image ∙ length-take-le a.size a.image.now (omega arith) in
    leaves_message a.size a.image.now e c.message-reply.ensures c.number.ensures.0 c.answer_length.ensures refl refl
