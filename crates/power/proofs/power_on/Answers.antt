-- `power_on` meets its contract: a fault is answered, and else the card answers to reset.
use mathlib.Core.Path.{◌≡◌, refl, sym, ap, ◌∙◌, subst}
use mathlib.Core.Bool.{true, not}
use mathlib.Core.List.{List}
use native.Mathlib.Omega.{arith}
use Prim.Native.Nat.{ℕ}
use lib.ListN.{length-drop}
use Rattle.std.specs.Prelude.{Option, Some}
use Rattle.words.proofs.Lists.{lent_tail, tail_is}
use Rattle.chips.specs.Kinds.{facts}
use Rattle.card.proofs.ImageLaws.{card_parts}
use Rattle.slot.specs.Slots.{powered, defaulted}
use Rattle.sound.specs.Sound.{image_is_card}
use Rattle.orders.specs.Orders.{Deed}
use Rattle.faults.specs.declared.Request.TheVariants.{PowerOn}
use Rattle.frame.specs.Exchange.{reset, deed}
use Rattle.frame.proofs.AnswerLaws.{gives_failed, gives_quiet, gives_done, sealed_slot, sealed_clear, names_0}
use Rattle.power.proofs.power_on.Goals as goal
use Rattle.chips.specs.declared.Chip.{Chip}

pub returns-then-is_some : goal.returns-then-is_some
returns-then-is_some c =
    let a = c.args in
    gives_failed PowerOn a.slot a.image.now a.msg.now c.fault_of-fault.ensures a.answer.now (ap not (sym c.if-is_some.ensures)) (omega arith)
    c.seal.ensures

pub returns-in_default : goal.returns-in_default
unfolding deed
returns-in_default c =
    let a = c.args in
    let clear = ap not (sym c.if-is_some.ensures) in
    let none = ap (λ (h : Option Chip). deed PowerOn h a.slot a.image.now a.msg.now) c.in_default.is in
    gives_quiet PowerOn a.slot a.image.now a.msg.now c.fault_of-fault.ensures a.answer.now a.slot clear none (omega arith)
    c.seal-in_default.ensures

pub answer_to_reset-len-requires : goal.answer_to_reset-len-requires
answer_to_reset-len-requires c =
    let a = c.args in
    let e : image_is_card (Some c.in-Some.chip) a.image.now ≡ true = subst (λ (h : Option Chip). image_is_card h a.image.now ≡ true) c.in-Some.is c.requires.1 in
    ((card_parts _ a.image.now e).long, rw (tail_is 10 a.answer.now) (omega (arith, length-drop 10 a.answer.now, c.requires.0)))

pub seal_done-requires-clause-slot_0 : goal.seal_done-requires-clause-slot_0
seal_done-requires-clause-slot_0 c = names_0 _ _ _ c.fault_of-fault.ensures (ap not (sym c.if-is_some.ensures))

pub returns : goal.returns
unfolding deed
returns c =
    let a = c.args in
    let f = facts c.in-Some.chip in
    let im : List ℕ = a.image.now in
    let d : Deed = record { said = reset f im; slot = defaulted (powered true a.slot); image = im } in
    let clear = ap not (sym c.if-is_some.ensures) in
    let does = ap (λ (h : Option Chip). deed PowerOn h a.slot im a.msg.now) c.in-Some.is in
    let told = c.answer_to_reset-len.ensures in
    let next = c.reset_set-next.ensures ∙ ap defaulted c.power.ensures in
    gives_done PowerOn a.slot im a.msg.now c.fault_of-fault.ensures a.answer.now d clear does told.0
    (omega (arith, c.requires.0))
    (lent_tail 10 a.answer.now (reset f im) told.1) refl (sealed_slot next (sealed_clear clear c.seal_done.ensures))
