-- `present` meets its contract: a counter without tries is 0, and nothing is done; else a try is spent and the code judged.
use mathlib.Core.Path.{◌≡◌, sym, ap, ◌∙◌}
use mathlib.Core.Bool.{not}
use mathlib.Core.List.{List}
use mathlib.Core.Logic.{◌≢◌}
use Prim.Native.Nat.{ℕ}
use native.Mathlib.Omega.{arith}
use borrow.Author.Tests.{eq-eqb, ne_eqb}
use lib.ListN.{length}
use Rattle.words.proofs.Choices.{taken, passed, and_fails, and_holds}
use Rattle.words.specs.Bytes.{byte, same}
use Rattle.codes.specs.Counters.{tries}
use Rattle.codes.specs.Codes.{code_in, judging, presenting, accepts}
use Rattle.codes.proofs.CounterLaws.{tries_none, tries_zero}
use Rattle.codes.proofs.present.Goals as goal
use Rattle.codes.proofs.present.Goals.{Else-tries_left-eq0, Then-tries_left-eq0}

-- the counter where no try is left, and where one is
no_try : (c : Then-tries_left-eq0) → let a = c.args in byte a.image.now a.counter ≡ 0
no_try c =
    let a = c.args in
    tries_zero (byte a.image.now a.counter) (omega (arith, c.slice_known-2-1.given a.counter)) (sym c.tries_left.ensures ∙ c.if-tries_left-eq0.true)

some_left : (c : Else-tries_left-eq0) → let a = c.args in byte a.image.now a.counter ≢ 0
some_left c e = c.if-tries_left-eq0.false (c.tries_left.ensures ∙ ap tries e ∙ tries_none)

pub returns-then-tries_left-eq0 : goal.returns-then-tries_left-eq0
unfolding presenting accepts
returns-then-tries_left-eq0 c =
    let on = goal.at.returns-then-tries_left-eq0 c in
    (and_fails _ (ap not (eq-eqb _ 0 (no_try on.Then-tries_left-eq0))), taken _ (eq-eqb _ 0 (no_try on.Then-tries_left-eq0)))

pub returns : goal.returns
unfolding presenting accepts
returns c =
    let on = goal.at.returns c in
    let a = c.args in
    let n : ℕ = length a.guess.now in
    let spent = c.spend_try.ensures in
    let judged = c.judge.ensures in (
      and_holds (ap not (ne_eqb _ 0 (some_left on.Else-tries_left-eq0))) (judged.0 ∙ ap (λ (im : List ℕ). same a.guess.now (code_in a.code n im)) spent),
      passed _ (ne_eqb _ 0 (some_left on.Else-tries_left-eq0)) (judged.1 ∙ ap (λ (im : List ℕ). judging a.counter a.full a.code n im a.guess.now) spent),
    )
