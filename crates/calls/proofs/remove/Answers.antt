-- `remove` meets its contract: of 32 bytes every one is written.
use mathlib.Core.Path.{refl, sym, ap, ◌∙◌}
use mathlib.Core.Bool.{not}
use borrow.Author.Tests.{eq-eqb, ne_eqb}
use mathlib.Core.List.{[]}
use Rattle.words.proofs.Choices.{first, rest}
use Rattle.words.proofs.Lists.{over_none}
use Rattle.record.specs.Raw.{raw_of}
use Rattle.frame.specs.declared.Refusal.{Refusal}
use Rattle.calls.specs.Calls.{raw_removal}
use Rattle.calls.proofs.CallLaws.{raw_is, raw_down_lem}
use Rattle.calls.proofs.remove.Goals as goal

pub returns-then-raw-ne32 : goal.returns-then-raw-ne32
unfolding raw_removal
returns-then-raw-ne32 c = raw_is (first _ _ (ap not (ne_eqb _ 32 c.if-raw-ne32.true))) (raw_down_lem Refusal.Record c.args.raw.now [] [] refl)

pub returns : goal.returns
unfolding raw_removal
returns c =
    raw_is (rest _ _ (ap not (eq-eqb _ 32 c.if-raw-ne32.false)))
    (record {
      number = refl;
      len = refl;
      raw =
          c.write_record.ensures ∙ first _ _ (eq-eqb _ 32 c.if-raw-ne32.false) ∙ ap raw_of c.empty.ensures;
      image =
          refl;
      buffer = sym (over_none []);
    })
