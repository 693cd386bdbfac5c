-- `command` meets its contract: the order that is performed is the one that the steps end in.
use mathlib.Core.Path.{◌≡◌, sym, subst, subst⁻¹, ◌∙◌}
use Rattle.std.specs.Prelude.{Result, Ok}
use native.Mathlib.Omega.{arith}
use Prim.Native.Nat.{ℕ, ◌≤◌}
use borrow.Author.Tests.{lt-ltb}
use lib.ListN.{length}
use mathlib.Core.List.{List}
use Rattle.words.proofs.Choices.{first}
use Rattle.words.proofs.Lists.{tail_is}
use Rattle.chips.specs.Kinds.{facts}
use Rattle.steps.specs.Steps.{order, body}
use Rattle.steps.specs.Fits.{Fit, Short}
use Rattle.steps.specs.declared.Order.{Order}
use Rattle.steps.specs.declared.Status.{Status}
use Rattle.steps.proofs.Decisions.{order_fits, order_short}
use Rattle.orders.specs.Orders.{said_by, performed, commanded, Does}
use Rattle.orders.proofs.Lengths.{said_short}
use Rattle.orders.proofs.Tells.{does_by}
use Rattle.command.proofs.command.Goals as goal
use Rattle.command.proofs.command.Goals.{In-Ok, After-decide}

pub returns-then-apdu-lt5 : goal.returns-then-apdu-lt5
unfolding commanded order performed said_by
returns-then-apdu-lt5 c =
    let a = c.args in
    let g = c.refuse.ensures (facts a.chip) a.image.now (body a.apdu.now) in record {
      does = does_by (facts a.chip) a.slot a.image.now (body a.apdu.now)
          (first _ _ (lt-ltb (length a.apdu.now) 5 c.if-apdu-lt5.true)) g;
      short = omega (arith, g.len);
    }

-- what the steps end in says at most 257 bytes
few : (c : After-decide) → let a = c.args in
    length (said_by (facts a.chip) a.slot a.image.now (body a.apdu.now) (order (facts a.chip) a.slot a.apdu.now)) ≤ 257
few c =
    let a = c.args in
    let f = facts a.chip in
    let d : List ℕ = a.apdu.now in
    said_short a.chip a.slot a.image.now (body d) (order f a.slot d) c.requires.1 (order_fits f a.slot d)
    (order_short f a.slot d (omega (arith, c.type_inv.apdu 4)))

-- the order that they end in
decided : (c : In-Ok) → let a = c.args in order (facts a.chip) a.slot a.apdu.now ≡ Ok c.in-Ok.order
decided c = sym c.decide.ensures ∙ c.in-Ok.is

pub perform-requires : goal.perform-requires
perform-requires c =
    let a = c.args in
    let f = facts a.chip in
    let d : List ℕ = a.apdu.now in
    let on = decided (goal.at.perform-requires c).In-Ok in
    let fits : Fit f (body d) (Ok c.in-Ok.order) = subst (λ (o : Result Order Status). Fit f (body d) o) on (order_fits f a.slot d) in
    let short : Short (Ok c.in-Ok.order) = subst Short on (order_short f a.slot d (omega (arith, c.type_inv.apdu 4))) in
    (omega arith, c.requires.1, c.requires.2, subst⁻¹ (λ (b : List ℕ). Fit f b (Ok c.in-Ok.order)) (tail_is 5 d) fits, short, c.requires.3)

pub returns-in-Ok : goal.returns-in-Ok
unfolding commanded performed
returns-in-Ok c =
    let a = c.args in
    let f = facts a.chip in
    let d : List ℕ = a.apdu.now in
    let g : Does (performed f a.slot a.image.now (body d) (order f a.slot d)) c.perform.result c.perform.new.image a.out.now c.perform.new.out =
    does_by f a.slot a.image.now (body d) (decided (goal.at.returns-in-Ok c).In-Ok)
    (subst (λ (b : List ℕ). Does (performed f a.slot a.image.now b (Ok c.in-Ok.order)) c.perform.result
    c.perform.new.image a.out.now c.perform.new.out) (tail_is 5 d) c.perform.ensures) in
    record { does = g; short = omega (arith, g.len, few (goal.at.returns-in-Ok c).After-decide) }

pub returns-in-Err : goal.returns-in-Err
unfolding commanded performed
returns-in-Err c =
    let a = c.args in
    let f = facts a.chip in
    let d : List ℕ = a.apdu.now in
    let g : Does (performed f a.slot a.image.now (body d) (order f a.slot d)) c.refuse-in-Err.result a.image.now a.out.now c.refuse-in-Err.new.out =
    does_by f a.slot a.image.now (body d) (sym c.decide.ensures ∙ c.in-Err.is) (c.refuse-in-Err.ensures f a.image.now (body d)) in
    record { does = g; short = omega (arith, g.len, few (goal.at.returns-in-Err c).After-decide) }
