-- `put_in` meets its contract: the reader turns the card down and nothing is laid, or accepts it and its image is laid.
use mathlib.Core.Path.{refl, sym, ◌∙◌, subst}
use native.Mathlib.Omega.{arith}
use Prim.Native.Nat.{ℕ}
use mathlib.Core.List.{[]}
use lib.ListN.{take}
use Rattle.frame.specs.Exchange.{insertion, Gives}
use Rattle.sitting.specs.Sittings.{taken_for}
use Rattle.sitting.proofs.Holding.{accepted_fits, leaves_refused, leaves_accepted}
use Rattle.sitting.proofs.put_in.Goals as goal
use Rattle.sitting.proofs.put_in.Goals.{After-insert-reply}

-- what the reader gave, of the kind that was taken
gives : (d : After-insert-reply) → let a = d.args in
    Gives (insertion a.slot (taken_for a.kind) a.card.now) d.insert-reply.result a.card.now [] []
gives d =
    let a = d.args in
    subst (λ (k : ℕ). Gives (insertion a.slot k a.card.now) d.insert-reply.result a.card.now [] []) d.taken_for.ensures d.insert-reply.ensures

pub returns-then-number-ne0 : goal.returns-then-number-ne0
returns-then-number-ne0 c =
    let a = c.args in
    leaves_refused a.slot a.kind a.card.now a.image.now
    (gives (goal.at.returns-then-number-ne0 c).After-insert-reply) c.number-number.ensures.0 refl refl a.size (omega arith) c.if-number-ne0.true refl

pub lay-requires : goal.lay-requires
lay-requires c =
    let a = c.args in
    omega (arith, accepted_fits a.slot a.kind a.card.now (sym (c.number-number.ensures.0 ∙ (gives (goal.at.lay-requires c).After-insert-reply).number) ∙ c.if-number-ne0.false))

pub returns : goal.returns
returns c =
    let a = c.args in
    leaves_accepted a.slot a.kind a.card.now a.image.now
    (gives (goal.at.returns c).After-insert-reply) c.number-number.ensures.0 refl refl
    (take a.size a.image.now) c.if-number-ne0.false refl c.lay.ensures
