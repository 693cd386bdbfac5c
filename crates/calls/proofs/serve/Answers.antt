-- `serve` meets its contract: an unknown kind and a broken record are turned down, and what a slot does is kept in the record.
use mathlib.Core.Path.{◌≡◌, refl, sym, ap, ◌∙◌}
use Rattle.std.proofs.Common.{rules}
use Rattle.std.specs.Prelude.{Result, Err}
use Rattle.record.specs.declared.Flaw.{Flaw}
use Rattle.record.specs.Raw.{slot_of}
use Rattle.frame.specs.declared.Refusal.{Refusal}
use Rattle.slot.specs.declared.Slot.{Slot}
use Rattle.calls.specs.Calls.{broken_as, raw_served}
use Rattle.calls.proofs.CallLaws.{raw_is, raw_down_lem, raw_kept, message_leaves}
use Rattle.calls.proofs.serve.Goals as goal
use Rattle.calls.proofs.serve.Goals.{After-read_record}

-- what the record was read as
by_reading : (c : After-read_record) (x : Result Slot Flaw) → c.read_record.result ≡ x → let a = c.args in
    raw_served (slot_of a.raw.now) a.raw.now a.image.now a.msg.now ≡ raw_served x a.raw.now a.image.now a.msg.now
by_reading c x e =
    let a = c.args in
    ap (λ (y : Result Slot Flaw). raw_served y a.raw.now a.image.now a.msg.now) (sym c.read_record.ensures ∙ e)

pub keep_state-requires : goal.keep_state-requires
keep_state-requires c =
    let a = c.args in
    message_leaves a.raw.now c.in-Ok.slot c.serve-reply.result.slot a.image.now a.msg.now c.requires.0
    (sym c.read_record.ensures ∙ c.in-Ok.is) c.serve-reply.ensures.slot

pub returns-in-Err-Unknown : goal.returns-in-Err-Unknown
unfolding raw_served
returns-in-Err-Unknown c =
    let a = c.args in
    raw_is (by_reading (goal.at.returns-in-Err-Unknown c).After-read_record (Err Flaw.Unknown) (search rules)) (raw_down_lem Refusal.Image a.raw.now a.image.now a.answer.now refl)

pub returns-in-Err-Broken : goal.returns-in-Err-Broken
unfolding raw_served
returns-in-Err-Broken c =
    let a = c.args in
    raw_is (by_reading (goal.at.returns-in-Err-Broken c).After-read_record (Err (Flaw.Broken c.in-Err-Broken.holds)) (search rules))
    (raw_down_lem (broken_as c.in-Err-Broken.holds a.image.now) a.raw.now a.image.now a.answer.now (ap Err c.broken.ensures))

pub returns-in-Ok : goal.returns-in-Ok
unfolding raw_served
returns-in-Ok c =
    let a = c.args in
    raw_is (by_reading (goal.at.returns-in-Ok c).After-read_record _ c.in-Ok.is)
    (raw_kept a.raw.now c.serve-reply.ensures c.keep_state.ensures.0 c.keep_state.ensures.1)
