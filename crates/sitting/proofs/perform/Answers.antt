-- `perform` meets its contract: each arm is its mark.
use mathlib.Core.Path.{◌≡◌, sym, ap, ap₂, ◌∙◌}
use native.Mathlib.Omega.{arith}
use Prim.Native.Nat.{ℕ}
use mathlib.Core.List.{List}
use lib.ListN.{length, take}
use Rattle.words.specs.Bounds.{largest_held, least_room}
use Rattle.frame.specs.Exchange.{exchange}
use Rattle.sitting.specs.Sittings.{outcome_of}
use Rattle.words.proofs.Lists.{take_min}
use Rattle.sitting.proofs.Holding.{leaves_is, leaves_taken}
use Rattle.records.specs.declared.Mark.{Mark}
use Rattle.sitting.proofs.perform.Goals as goal

pub returns-in-Insert : goal.returns-in-Insert
returns-in-Insert c =
    let a = c.args in
    let im : List ℕ = a.image.now in
    let t : take c.least-size.result im ≡ take a.held.size im =
    ap (λ (n : ℕ). take n im) c.least-size.ensures ∙ take_min a.held.size largest_held im (omega arith) in
    leaves_is (ap (λ (m : Mark). outcome_of m a.body.now a.held.slot (take a.held.size im) least_room)
    c.in-Insert.is ∙ ap (λ (b : List ℕ). outcome_of Mark.Insert a.body.now a.held.slot b least_room) (sym t))
    (c.insert.ensures a.answer.now)

pub returns-in-Remove : goal.returns-in-Remove
unfolding outcome_of
returns-in-Remove c =
    let a = c.args in
    let e = c.remove.ensures in
    leaves_is (ap (λ (m : Mark). outcome_of m a.body.now a.held.slot (take a.held.size a.image.now) least_room)
    c.in-Remove.is) (leaves_taken a.image.now a.answer.now e.0 e.1 e.2 e.3)

pub returns-in-Message : goal.returns-in-Message
unfolding outcome_of
returns-in-Message c =
    let a = c.args in
    let im : List ℕ = a.image.now in
    let t : take c.least-size.result im ≡ take a.held.size im =
    ap (λ (n : ℕ). take n im) c.least-size.ensures ∙ take_min a.held.size largest_held im (omega arith) in
    let r : length a.answer.now ≡ least_room = omega arith in
    leaves_is (ap (λ (m : Mark). outcome_of m a.body.now a.held.slot (take a.held.size im) least_room) c.in-Message.is
    ∙ ap₂ (λ (b : List ℕ) (n : ℕ). exchange a.held.slot b a.body.now n) (sym t) (sym r)) c.message.ensures
