-- `message` meets its contract: tests 1 and 2, and then what the slot of the record does.
use mathlib.Core.Path.{◌≡◌, sym, ap, ◌∙◌}
use lib.ListN.{length}
use Rattle.std.proofs.Common.{rules}
use Rattle.std.specs.Prelude.{ℕ, Result}
use Rattle.reader.proofs.Fronting.{slot_meant}
use Rattle.calls.specs.Calls.{raw_fronted, raw_exchange}
use Rattle.calls.proofs.CallLaws.{raw_is, raw_down_lem}
use Rattle.calls.proofs.message.Goals as goal
use Rattle.calls.proofs.message.Goals.{After-front}
use Rattle.frame.specs.declared.Refusal.{Refusal}

-- what the front told
by_front : (c : After-front) (x : Result ℕ Refusal) → c.front.result ≡ x → let a = c.args in
    raw_exchange a.raw.now a.image.now a.msg.now (length a.answer.now) ≡ raw_fronted x a.raw.now a.image.now a.msg.now
unfolding raw_exchange
by_front c x e =
    let a = c.args in
    ap (λ (y : Result ℕ Refusal). raw_fronted y a.raw.now a.image.now a.msg.now) (sym c.front.ensures ∙ e)

pub serve-requires : goal.serve-requires
serve-requires c =
    let a = c.args in
    let here = slot_meant a.msg.now (length a.answer.now) _ (sym c.front.ensures ∙ c.in_ok-front.was) in
    (here.0, here.1)

pub returns-in_err-front : goal.returns-in_err-front
returns-in_err-front c =
    let a = c.args in
    raw_is (by_front (goal.at.returns-in_err-front c).After-front _ c.in_err-front.was) (raw_down_lem _ a.raw.now a.image.now a.answer.now (search rules))

pub returns : goal.returns
returns c =
    raw_is (by_front (goal.at.returns c).After-front _ c.in_ok-front.was) c.serve.ensures
