-- `insert` meets its contract: its tests are the rule's, 4, 5 and then the reader's own.
use mathlib.Core.Path.{refl, sym, ap, ◌∙◌}
use mathlib.Core.Bool.{not}
use borrow.Author.Tests.{eq-eqb, ne_eqb}
use mathlib.Core.List.{[]}
use Rattle.words.proofs.Choices.{first, rest}
use Rattle.slot.specs.declared.Slot.{Slot}
use Rattle.frame.specs.declared.Refusal.{Refusal}
use Rattle.frame.specs.Exchange.{insertion}
use Rattle.calls.specs.Calls.{raw_insertion, rawly}
use Rattle.calls.proofs.CallLaws.{raw_is, raw_down_lem, raw_kept}
use Rattle.calls.proofs.insert.Goals as goal

pub returns-then-raw-ne32 : goal.returns-then-raw-ne32
unfolding raw_insertion
returns-then-raw-ne32 c =
    raw_is (first _ _ (ap not (ne_eqb _ 32 c.if-raw-ne32.true))) (raw_down_lem Refusal.Record c.args.raw.now c.args.image.now [] refl)

pub returns-then-raw-ne0 : goal.returns-then-raw-ne0
unfolding raw_insertion
returns-then-raw-ne0 c =
    raw_is (rest _ _ (ap not (eq-eqb _ 32 c.if-raw-ne32.false)) ∙ first _ _ (ap not (ne_eqb _ 0 c.if-raw-ne0.true)))
    (raw_down_lem Refusal.Occupied c.args.raw.now c.args.image.now [] refl)

pub returns : goal.returns
unfolding raw_insertion
returns c =
    let a = c.args in
    raw_is (rest _ _ (ap not (eq-eqb _ 32 c.if-raw-ne32.false)) ∙ rest _ _ (ap not (eq-eqb _ 0 c.if-raw-ne0.false)))
    (raw_is (ap (λ (s : Slot). rawly a.raw.now (insertion s a.kind a.image.now)) (sym c.empty.ensures))
    (raw_kept a.raw.now c.insert-reply.ensures c.keep.ensures.0 c.keep.ensures.1))
