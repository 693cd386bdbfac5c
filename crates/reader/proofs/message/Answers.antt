-- `message` meets its contract: tests 1 and 2, and then what the slot does.
use mathlib.Core.Path.{◌≡◌, sym, ap, ◌∙◌}
use lib.ListN.{length}
use Rattle.std.specs.Prelude.{ℕ, Result}
use Rattle.frame.specs.Exchange.{exchange}
use Rattle.frame.proofs.AnswerLaws.{gives_is, gives_down}
use Rattle.reader.specs.Fronts.{fronted}
use Rattle.reader.proofs.Fronting.{exchange_fronted, slot_meant}
use Rattle.reader.proofs.message.Goals as goal
use Rattle.reader.proofs.message.Goals.{After-front}
use Rattle.frame.specs.declared.Refusal.{Refusal}

-- the exchange is what comes of the front
by_front : (c : After-front) (x : Result ℕ Refusal) → c.front.result ≡ x → let a = c.args in
    exchange a.slot a.image.now a.msg.now (length a.answer.now) ≡ fronted x a.slot a.image.now a.msg.now
by_front c x e =
    let a = c.args in
    exchange_fronted a.slot a.image.now a.msg.now (length a.answer.now)
    ∙ ap (λ (y : Result ℕ Refusal). fronted y a.slot a.image.now a.msg.now) (sym c.front.ensures ∙ e)

pub serve-requires : goal.serve-requires
serve-requires c =
    let a = c.args in
    let here = slot_meant a.msg.now (length a.answer.now) _ (sym c.front.ensures ∙ c.in-Ok.is) in
    (here.0, here.1)

pub returns-in-Err : goal.returns-in-Err
returns-in-Err c =
    let a = c.args in
    gives_is (by_front (goal.at.returns-in-Err c).After-front _ c.in-Err.is)
    (gives_down _ a.slot a.image.now a.answer.now c.turn_down.ensures.0 c.turn_down.ensures.1)

pub returns-in-Ok : goal.returns-in-Ok
returns-in-Ok c =
    gives_is (by_front (goal.at.returns-in-Ok c).After-front _ c.in-Ok.is) c.serve.ensures
