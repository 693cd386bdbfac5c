-- `serve` meets its contract: tests 3 and 4, and then the handler.
use mathlib.Core.Path.{◌≡◌, sym, ap, ◌∙◌}
use mathlib.Core.Bool.{true, not}
use mathlib.Core.List.{List}
use Prim.Native.Nat.{ℕ}
use native.Mathlib.Omega.{arith}
use Rattle.words.proofs.Choices.{first, rest}
use Rattle.sound.specs.Sound.{image_is_card, sound}
use Rattle.sound.proofs.SoundLaws.{sound_parts}
use Rattle.frame.specs.declared.Refusal.{Refusal}
use Rattle.faults.specs.Faults.{type_byte, request_of}
use Rattle.frame.specs.Exchange.{reply, served}
use Rattle.frame.proofs.AnswerLaws.{gives_is, gives_down, served_on, page_some}
use Rattle.reader.proofs.serve.Goals as goal
use Rattle.reader.proofs.serve.Goals.{Else-not-fits, Else-not-stands}

-- what the tests that are passed show
fits : (c : Else-not-fits) → let a = c.args in image_is_card a.slot.holds a.image.now ≡ true
fits c = sym c.fits.ensures ∙ c.if-not-fits.false

stands : (c : Else-not-stands) → let a = c.args in sound a.slot a.image.now ≡ true
stands c = sym c.stands.ensures ∙ c.if-not-stands.false

pub returns-then-not-fits : goal.returns-then-not-fits
unfolding served
returns-then-not-fits c =
    let a = c.args in
    gives_is (first _ _ (ap not (sym c.fits.ensures ∙ c.if-not-fits.true)))
    (gives_down Refusal.Image a.slot a.image.now a.answer.now c.turn_down.ensures.0 c.turn_down.ensures.1)

pub returns-then-not-stands : goal.returns-then-not-stands
unfolding served
returns-then-not-stands c =
    let a = c.args in
    gives_is (rest _ _ (ap not (fits (goal.at.returns-then-not-stands c).Else-not-fits)) ∙ first _ _ (ap not (sym c.stands.ensures ∙ c.if-not-stands.true)))
    (gives_down Refusal.Record a.slot a.image.now a.answer.now c.turn_down-then-not-stands.ensures.0 c.turn_down-then-not-stands.ensures.1)

pub handle-requires : goal.handle-requires
handle-requires c =
    let a = c.args in
    let s = sound_parts a.slot a.image.now (stands (goal.at.handle-requires c).Else-not-stands) in
    (omega arith, fits (goal.at.handle-requires c).Else-not-fits, page_some a.slot.page s.sized, s.counts.protected)

pub returns : goal.returns
returns c =
    let on = goal.at.returns c in
    let a = c.args in
    let named = ap (λ (m : List ℕ). reply (request_of (type_byte m)) a.slot a.image.now m) (sym c.of.ensures) in
    gives_is (served_on a.slot a.image.now a.msg.now (fits on.Else-not-fits) (stands on.Else-not-stands) ∙ named) c.handle.ensures
