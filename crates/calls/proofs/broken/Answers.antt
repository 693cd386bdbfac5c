-- `broken` meets its contract: with no card the image is not looked at, else its test is the rule's.
use mathlib.Core.Path.{refl, sym, ap, ◌∙◌}
use mathlib.Core.Bool.{not}
use Rattle.std.specs.Prelude.{Option}
use Rattle.words.proofs.Choices.{taken, passed}
use Rattle.sound.specs.Sound.{image_is_card}
use Rattle.calls.specs.Calls.{broken_as}
use Rattle.calls.proofs.broken.Goals as goal
use Rattle.chips.specs.declared.Chip.{Chip}

pub returns-in_default : goal.returns-in_default
unfolding broken_as
returns-in_default c =
    passed _ (ap (λ (h : Option Chip). not (image_is_card h c.args.image.now)) c.in_default.is) refl

pub returns-then-not-is_card : goal.returns-then-not-is_card
unfolding broken_as
returns-then-not-is_card c =
    taken _ (ap (λ (h : Option Chip). not (image_is_card h c.args.image.now)) c.in-Some.is
    ∙ ap not (sym c.is_card.ensures ∙ c.if-not-is_card.true))

pub returns : goal.returns
unfolding broken_as
returns c =
    passed _ (ap (λ (h : Option Chip). not (image_is_card h c.args.image.now)) c.in-Some.is
    ∙ ap not (sym c.is_card.ensures ∙ c.if-not-is_card.false)) refl
