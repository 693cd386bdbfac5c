-- `keep_state` meets its contract: an answer writes bytes 1 to 12, a refusal leaves the record.
use mathlib.Core.Path.{refl, sym, ap, ◌∙◌}
use Rattle.std.proofs.Common.{rules}
use Rattle.std.specs.Prelude.{ℕ, ◌≡◌, Result, Ok, Err}
use Rattle.words.specs.Choice.{◌is◌}
use Rattle.words.proofs.Choices.{met, passed}
use Rattle.record.proofs.RawLaws.{state_written}
use Rattle.frame.specs.Exchange.{number}
use Rattle.calls.specs.Calls.{keeping}
use Rattle.calls.proofs.CallLaws.{number_not}
use Rattle.calls.proofs.keep_state.Goals as goal
use Rattle.frame.specs.declared.Refusal.{Refusal}

pub returns-in_err-len : goal.returns-in_err-len
unfolding keeping
returns-in_err-len c =
    let e : c.args.reply.verdict ≡ Err c.in_err-len.field-0.0 = search rules in (
      search rules,
      passed _ (ap (λ (v : Result ℕ Refusal). number v is 0) e ∙ number_not c.in_err-len.field-0.0) refl,
    )

pub returns : goal.returns
unfolding keeping
returns c =
    let a = c.args in
    let p = c.requires in
    let e : a.reply.verdict ≡ Ok c.in_ok-len.len = search rules in (
      sym e,
      met _ (ap (λ (v : Result ℕ Refusal). number v is 0) e) (c.write_state.ensures ∙ state_written a.raw.now a.reply.slot p.0 p.1),
    )
