-- `keep` meets its contract: an answer writes the slot, a refusal leaves the record.
use mathlib.Core.Path.{refl, sym, ap, ◌∙◌}
use borrow.Author.Tests.{eq-eqb}
use Rattle.std.proofs.Common.{rules}
use Rattle.std.specs.Prelude.{ℕ, ◌≡◌, Result, Ok, Err}
use Rattle.words.specs.Choice.{◌is◌}
use Rattle.words.proofs.Choices.{first, taken, passed}
use Rattle.frame.specs.Exchange.{number}
use Rattle.calls.specs.Calls.{keeping}
use Rattle.calls.proofs.CallLaws.{number_not}
use Rattle.calls.proofs.keep.Goals as goal
use Rattle.frame.specs.declared.Refusal.{Refusal}

pub returns-in_err-len : goal.returns-in_err-len
unfolding keeping
returns-in_err-len c =
    let e : c.args.reply.verdict ≡ Err c.in_err-len.field-0.0 = search rules in (
      search rules,
      passed _ (ap (λ (v : Result ℕ Refusal). number v is 0) e ∙ number_not c.in_err-len.field-0.0) refl,
    )

pub returns : goal.returns
unfolding keeping
returns c =
    let e : c.args.reply.verdict ≡ Ok c.in_ok-len.len = search rules in (
      sym e,
      c.write_record.ensures ∙ first _ _ (eq-eqb _ 32 c.requires) ∙ taken _ (ap (λ (v : Result ℕ Refusal). number v is 0) e),
    )
