-- `transfer` meets its contract: failed, or the command done on the lent parts.
use mathlib.Core.Path.{◌≡◌, sym, ap, ◌∙◌, subst}
use mathlib.Core.Bool.{true, not}
use native.Mathlib.Omega.{arith}
use Prim.Native.Nat.{ℕ, ◌-◌}
use lib.ListN.{length, take, drop, length-drop}
use mathlib.Core.List.{List}
use Rattle.std.specs.Prelude.{Option, Some}
use Rattle.words.proofs.Lists.{lent_tail, tail_is}
use Rattle.chips.specs.Kinds.{facts}
use Rattle.card.proofs.ImageLaws.{card_parts}
use Rattle.counts.specs.Counts.{protected_of}
use Rattle.counts.proofs.CardLaws.{protected_card}
use Rattle.sound.specs.Sound.{image_is_card}
use Rattle.orders.specs.Orders.{commanded, Does}
use Rattle.faults.specs.declared.Request.TheVariants.{Transfer}
use Rattle.faults.specs.Faults.{apdu}
use Rattle.frame.specs.Exchange.{deed}
use Rattle.frame.proofs.AnswerLaws.{gives_failed, gives_done, gives_quiet, sealed_slot, sealed_clear, names_0}
use Rattle.dispatch.proofs.transfer.Goals as goal
use Rattle.chips.specs.declared.Chip.{Chip}

pub returns-then-is_some : goal.returns-then-is_some
returns-then-is_some c =
    let a = c.args in
    gives_failed Transfer a.slot a.image.now a.msg.now c.fault_of-fault.ensures a.answer.now (ap not (sym c.if-is_some.ensures)) (omega arith)
    c.seal.ensures

pub returns-in_default : goal.returns-in_default
unfolding deed
returns-in_default c =
    gives_quiet Transfer c.args.slot c.args.image.now c.args.msg.now c.fault_of-fault.ensures
    c.args.answer.now c.args.slot (ap not (sym c.if-is_some.ensures))
    (ap (λ (h : Option Chip). deed Transfer h c.args.slot c.args.image.now c.args.msg.now) c.in_default.is)
    (omega arith) c.seal-in_default.ensures

pub command-told-requires : goal.command-told-requires
command-told-requires c =
    let a = c.args in
    let e : image_is_card (Some c.in-Some.chip) a.image.now ≡ true =
    subst (λ (h : Option Chip). image_is_card h a.image.now ≡ true) c.in-Some.is c.requires.1 in
    let long = (card_parts _ a.image.now e).long in (
      rw (tail_is 10 a.answer.now) (omega (arith, length-drop 10 a.answer.now, c.requires.0)),
      long,
      c.requires.2,
      c.requires.3 ∙ ap (λ (h : Option Chip). protected_of h a.image.now) c.in-Some.is ∙ protected_card c.in-Some.chip a.image.now long,
    )

pub seal_done-requires-clause-slot_0 : goal.seal_done-requires-clause-slot_0
seal_done-requires-clause-slot_0 c = names_0 _ _ _ c.fault_of-fault.ensures (ap not (sym c.if-is_some.ensures))

pub returns : goal.returns
unfolding deed
returns c =
    let a = c.args in
    let f = facts c.in-Some.chip in
    let im : List ℕ = a.image.now in
    let m : List ℕ = a.msg.now in
    let g : Does (commanded f a.slot im (apdu m)) c.command-told.result c.command-told.new.image
    (take (length a.answer.now - 10) (drop 10 a.answer.now)) c.command-told.new.out =
    subst (λ (b : List ℕ). Does (commanded f a.slot im b) c.command-told.result c.command-told.new.image
    (take (length a.answer.now - 10) (drop 10 a.answer.now)) c.command-told.new.out) c.data.ensures
    c.command-told.ensures.does in
    gives_done Transfer a.slot im m c.fault_of-fault.ensures a.answer.now (commanded f a.slot im (apdu m))
    (ap not (sym c.if-is_some.ensures))
    (ap (λ (h : Option Chip). deed Transfer h a.slot im m) c.in-Some.is)
    g.len (omega (arith, c.requires.0)) (lent_tail 10 a.answer.now (commanded f a.slot im (apdu m)).said g.out) g.image
    (sealed_slot g.slot (sealed_clear (ap not (sym c.if-is_some.ensures)) c.seal_done.ensures))
