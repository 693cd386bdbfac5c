-- `read` meets its contract: its tests are the rule's, in their order, and the bytes it reads are the header's.
use mathlib.Core.Path.{◌≡◌, sym, ap, ◌∙◌}
use native.Mathlib.Omega.{arith}
use Prim.Native.Nat.{ℕ, ◌+◌, ◌-◌, ◌*◌, ◌≤◌, ◌<◌}
use lib.ListN.{length}
use borrow.Author.Tests.{le-leb, lt-leb, lt-ltb, le-ltb}
use Rattle.std.specs.declared.option.Option.{Option}
use Rattle.std.specs.Prelude.{Some, None, Ok, Err}
use Rattle.std.specs.Option.{ok_or}
use Rattle.std.specs.Result.{IsErrAnd, result_ok}
use Rattle.words.proofs.Choices.{taken, passed}
use Rattle.records.specs.declared.Mark.{Mark}
use Rattle.records.specs.declared.Stop.{Stop}
use Rattle.records.specs.declared.Stop.TheVariants.{Bad}
use Rattle.records.specs.Records.{Found, mark_of, most, word_at, length_at, body_at, record_at}
use Rattle.records.proofs.read.Goals as goal
use Rattle.records.proofs.read.Goals.{After-ok_or, After-wide-4}

pub returns-then-input-at : goal.returns-then-input-at
unfolding record_at
returns-then-input-at c = taken _ (le-leb _ _ c.if-input-at.true)

pub returns-then-input-at-lt4 : goal.returns-then-input-at-lt4
unfolding record_at
returns-then-input-at-lt4 c = passed _ (lt-leb _ _ c.if-input-at.false) (taken _ (lt-ltb _ 4 c.if-input-at-lt4.true))

-- ---- what stands at the place, behind the first two tests
-- by its mark
marked_found : (p : After-ok_or) {r : Found} {marked : Option Mark} → result_ok p.ok_or.result ≡ marked
    → let a = p.args in r ≡ body_at marked a.input.now a.at
    → r ≡ record_at a.input.now a.at
unfolding record_at
marked_found p {marked = marked} k h =
    let a = p.args in
    let w : 256 * p.wide.result + p.wide-2.result ≡ word_at a.input.now a.at =
    omega (arith, p.wide.ensures.0, p.wide-2.ensures.0) in
    let marks : marked ≡ mark_of (word_at a.input.now a.at) = sym (p.ok_or.ensures.ok_part ∙ k) ∙ p.mark_of.ensures ∙ ap mark_of w in
    passed _ (lt-leb _ _ p.if-input-at.false)
    (passed _ (le-ltb _ 4 p.if-input-at-lt4.false) (h ∙ ap (λ (x : Option Mark). body_at x a.input.now a.at) marks))

-- another mark is bad
unmarked : (k : Option Mark) {x : Stop} (r : Found) → Err x ≡ ok_or k Bad → IsErrAnd r (λ (e : Stop). e ≡ x) → r ≡ Err Bad
unmarked None (Ok x) e h = absurd h
unmarked None (Err y) e h = cc
unmarked (Some mark) r e h = cc

-- its length
length_is : (p : After-wide-4) → let a = p.args in
    p.wide-3.result + 256 * p.wide-4.result ≡ length_at a.input.now a.at
length_is p = omega (arith, p.wide-3.ensures.0, p.wide-4.ensures.0)

pub returns-in_err-mark : goal.returns-in_err-mark
unfolding record_at body_at
returns-in_err-mark c =
    let p = (goal.at.returns-in_err-mark c).After-ok_or in
    let bad = unmarked p.mark_of.result c.from_residual.result (sym c.in_err-mark.was ∙ p.ok_or.ensures.value) c.from_residual.ensures.1 in
    marked_found p (ap result_ok c.in_err-mark.was) bad

pub returns-then-most-len : goal.returns-then-most-len
unfolding record_at body_at
returns-then-most-len c =
    let a = c.args in
    let n : ℕ = length_at a.input.now a.at in
    let p = goal.at.returns-then-most-len c in
    let long : most c.in_ok-mark.mark < n = omega (arith, length_is p.After-wide-4, c.most.ensures, c.if-most-len.true) in
    marked_found p.After-ok_or (ap result_ok (c.in_ok-mark.was)) (taken _ (lt-ltb _ _ long))

pub returns-then-input-start : goal.returns-then-input-start
unfolding record_at body_at
returns-then-input-start c =
    let a = c.args in
    let n : ℕ = length_at a.input.now a.at in
    let p = goal.at.returns-then-input-start c in
    let small : n ≤ most c.in_ok-mark.mark = omega (arith, length_is p.After-wide-4, c.most.ensures, c.if-most-len.false) in
    let cut : length a.input.now - (a.at + 4) < n = omega (arith, length_is p.After-wide-4, c.if-input-start.true) in
    marked_found p.After-ok_or (ap result_ok (c.in_ok-mark.was)) (passed _ (le-ltb _ _ small) (taken _ (lt-ltb _ _ cut)))

pub returns : goal.returns
unfolding record_at body_at
returns c =
    let a = c.args in
    let n : ℕ = length_at a.input.now a.at in
    let p = goal.at.returns c in
    let small : n ≤ most c.in_ok-mark.mark = omega (arith, length_is p.After-wide-4, c.most.ensures, c.if-most-len.false) in
    let whole : n ≤ length a.input.now - (a.at + 4) = omega (arith, length_is p.After-wide-4, c.if-input-start.false) in
    let ends = ap (λ (e : ℕ). Ok (record { mark = c.in_ok-mark.mark; start = a.at + 4; end = a.at + 4 + e })) (length_is p.After-wide-4) in
    marked_found p.After-ok_or (ap result_ok (c.in_ok-mark.was)) (passed _ (le-ltb _ _ small) (passed _ (le-ltb _ _ whole) ends))
