-- `decide` meets its contract: each arm is what INS means, at the place of that instruction.
use mathlib.Core.Path.{◌≡◌, refl, sym, ap, ap₂, ◌∙◌}
use native.Mathlib.Omega.{arith}
use borrow.Author.Tests.{eqb-true}
use lib.ListN.{length}
use Rattle.std.specs.Prelude.{Result}
use Rattle.words.specs.Choice.{◌⇒◌⁏◌}
use Rattle.words.specs.Bytes.{byte}
use Rattle.chips.specs.Kinds.{facts}
use Rattle.steps.specs.declared.Ins.{Ins}
use Rattle.steps.specs.declared.Ins.TheVariants.{Select, Page, Read, Counter, Bits, Write, Protect, Present, Change, Other}
use Rattle.steps.specs.declared.Order.{Order}
use Rattle.steps.specs.declared.Status.{Status}
use Rattle.steps.specs.Steps.{p1p2, p3, meant, top, range_test, steps, order}
use Prim.Native.Nat.{ℕ, ◌+◌}
use Rattle.steps.proofs.Decisions.{order_at}
use Rattle.decide.proofs.decide.Goals as goal
use Rattle.decide.proofs.decide.Goals.{After-meant-meaning}

-- an arm: its handler's steps are those of the pseudo-APDU, INS meaning the arm's and the place being that instruction's
arm : (d : After-meant-meaning) (i : Ins) (v : ℕ) {ranged : Result ℕ Status} {r : Result Order Status} → let a = d.args in
    let f = facts a.chip in
    let x = a.apdu.now in
    v ≡ byte x 5 → d.meant-meaning.result.ins ≡ i → ranged ≡ range_test f i (d.meant-meaning.result.top + p1p2 x) (p3 x)
    → r ≡ steps f a.slot (length x) d.wide.result v i ranged
    → r ≡ order f a.slot x
arm d i v e k g h =
    let a = d.args in
    let f = facts a.chip in
    let x = a.apdu.now in
    let m = ap (meant f) (sym d.from.ensures) ∙ sym d.meant-meaning.ensures.0 ∙ k in
    order_at f a.slot x _ v i _ (omega arith) (eqb-true _ 0xFF d.in_ok-unless.ensures) d.wide.ensures.0 e m
    (g ∙ ap₂ (λ (j : Ins) (t : ℕ). range_test f j (t + p1p2 x) (p3 x)) (sym m) (d.meant-meaning.ensures.1 ∙ ap (top f) d.from.ensures)) h

pub returns-in-Select : goal.returns-in-Select
returns-in-Select c = arm (goal.at.returns-in-Select c).After-meant-meaning Select _ c.byte_at-v.ensures c.in-Select.is c.place.ensures c.select_order.ensures

pub returns-in-Page : goal.returns-in-Page
returns-in-Page c = arm (goal.at.returns-in-Page c).After-meant-meaning Page _ c.byte_at-v-in-Page.ensures c.in-Page.is c.place-in-Page.ensures c.page_order.ensures

pub returns-in-Read : goal.returns-in-Read
returns-in-Read c = arm (goal.at.returns-in-Read c).After-meant-meaning Read _ refl c.in-Read.is c.place-in-Read.ensures (c.read_order.ensures _)

pub returns-in-Counter : goal.returns-in-Counter
returns-in-Counter c = arm (goal.at.returns-in-Counter c).After-meant-meaning Counter _ refl c.in-Counter.is c.place-in-Counter.ensures (c.counter_order.ensures _)

pub returns-in-Bits : goal.returns-in-Bits
returns-in-Bits c = arm (goal.at.returns-in-Bits c).After-meant-meaning Bits _ refl c.in-Bits.is c.place-in-Bits.ensures (c.bits_order.ensures _)

pub returns-in-Write : goal.returns-in-Write
returns-in-Write c = arm (goal.at.returns-in-Write c).After-meant-meaning Write _ refl c.in-Write.is c.place-in-Write.ensures (c.write_order.ensures _)

pub returns-in-Protect : goal.returns-in-Protect
returns-in-Protect c = arm (goal.at.returns-in-Protect c).After-meant-meaning Protect _ refl c.in-Protect.is c.place-in-Protect.ensures (c.protect_order.ensures _)

pub returns-in-Present : goal.returns-in-Present
returns-in-Present c = arm (goal.at.returns-in-Present c).After-meant-meaning Present _ refl c.in-Present.is c.place-in-Present.ensures (c.present_order.ensures _)

pub returns-in-Change : goal.returns-in-Change
returns-in-Change c = arm (goal.at.returns-in-Change c).After-meant-meaning Change _ refl c.in-Change.is c.place-in-Change.ensures (c.change_order.ensures _)

pub returns-in-Other : goal.returns-in-Other
unfolding steps ◌⇒◌⁏◌
returns-in-Other c = arm (goal.at.returns-in-Other c).After-meant-meaning Other _ refl c.in-Other.is refl refl
