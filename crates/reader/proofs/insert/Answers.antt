-- `insert` meets its contract: its tests are the rule's, 5 and then 3.
use mathlib.Core.Path.{◌≡◌, refl, sym, ap, ap₂, ◌∙◌}
use mathlib.Core.List.{[]}
use lib.ListN.{length}
use Rattle.std.specs.Prelude.{Option, None}
use Rattle.words.proofs.Choices.{first, rest}
use Rattle.words.proofs.Lists.{over_none}
use Rattle.chips.specs.Kinds.{facts, chip_of}
use Rattle.card.proofs.ImageLaws.{card_parts}
use Rattle.slot.specs.Slots.{inserted}
use Rattle.frame.specs.Exchange.{inserted_as, insertion}
use Rattle.frame.specs.declared.Refusal.{Refusal}
use Rattle.frame.proofs.AnswerLaws.{gives_is, gives_down}
use Rattle.reader.proofs.insert.Goals as goal
use Rattle.reader.proofs.insert.Goals.{Else-not-is_card}
use Rattle.chips.specs.declared.Chip.{Chip}

pub returns-then-has_card : goal.returns-then-has_card
unfolding insertion
returns-then-has_card c =
    gives_is (first _ _ (sym c.has_card.ensures ∙ c.if-has_card.true))
    (gives_down Refusal.Occupied c.args.slot c.args.image.now [] c.turn_down.ensures.0 c.turn_down.ensures.1)

pub returns-in_default : goal.returns-in_default
unfolding insertion inserted_as
returns-in_default c =
    let a = c.args in
    let k : chip_of a.kind ≡ None = sym c.chip_of.ensures ∙ c.in_default.is in
    gives_is (rest _ _ (sym c.has_card.ensures ∙ c.if-has_card.false) ∙ ap (λ (x : Option Chip). inserted_as x a.slot a.image.now) k)
    (gives_down Refusal.Image a.slot a.image.now [] c.turn_down-in_default.ensures.0 c.turn_down-in_default.ensures.1)

pub returns-then-not-is_card : goal.returns-then-not-is_card
unfolding insertion inserted_as
returns-then-not-is_card c =
    let a = c.args in
    let k = sym c.chip_of.ensures ∙ c.in-Some.is in
    gives_is (rest _ _ (sym c.has_card.ensures ∙ c.if-has_card.false) ∙ ap (λ (x : Option Chip). inserted_as x a.slot a.image.now) k
    ∙ rest _ _ (sym c.is_card.ensures ∙ c.if-not-is_card.true))
    (gives_down Refusal.Image a.slot a.image.now [] c.turn_down-then-not-is_card.ensures.0 c.turn_down-then-not-is_card.ensures.1)

-- the image has the card's length
sized : (c : Else-not-is_card) → length c.args.image.now ≡ (facts c.in-Some.chip).size
sized c = (card_parts _ _ (sym c.is_card.ensures ∙ c.if-not-is_card.false)).long

pub tries_in-requires : goal.tries_in-requires
tries_in-requires c = sized (goal.at.tries_in-requires c).Else-not-is_card

pub count_in-requires : goal.count_in-requires
count_in-requires c = sized (goal.at.count_in-requires c).Else-not-is_card

pub returns : goal.returns
unfolding insertion inserted_as
returns c =
    let a = c.args in
    let k = sym c.chip_of.ensures ∙ c.in-Some.is in
    let counted = c.insert-next.ensures ∙ ap₂ (inserted c.in-Some.chip) c.tries_in.ensures c.count_in.ensures in
    gives_is (rest _ _ (sym c.has_card.ensures ∙ c.if-has_card.false) ∙ ap (λ (x : Option Chip). inserted_as x a.slot a.image.now) k
    ∙ first _ _ (sym c.is_card.ensures ∙ c.if-not-is_card.false))
    (record { number = refl; len = refl; slot = counted; image = refl; buffer = sym (over_none []) })
