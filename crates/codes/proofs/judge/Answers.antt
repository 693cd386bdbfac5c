-- `judge` meets its contract: the codes are compared as the rule compares them.
use mathlib.Core.Path.{◌≡◌, refl, sym, ap, ◌∙◌}
use native.Mathlib.Omega.{arith}
use Prim.Native.Nat.{ℕ, ◌+◌, ◌-◌}
use lib.ListN.{length, take, drop}
use Rattle.words.proofs.Choices.{taken, passed}
use Rattle.words.specs.Bytes.{same}
use Rattle.codes.specs.Codes.{code_in, judging}
use Rattle.codes.proofs.judge.Goals as goal
use Rattle.codes.proofs.judge.Goals.{After-same_bytes}

-- what the comparison says, in the rule's words
codes_compared : (c : After-same_bytes) →
    let a = c.args in
    c.same_bytes.result ≡ same a.guess.now (code_in a.code (length a.guess.now) a.image.now)
codes_compared c =
    let a = c.args in
    let e : a.code + length a.guess.now - a.code ≡ length a.guess.now = omega arith in
    c.same_bytes.ensures ∙ ap (λ (n : ℕ). same a.guess.now (take n (drop a.code a.image.now))) e

pub returns-then-same_bytes : goal.returns-then-same_bytes
unfolding judging
returns-then-same_bytes c =
    let on = goal.at.returns-then-same_bytes c in
    (sym (sym (codes_compared on.After-same_bytes) ∙ c.if-same_bytes.true), taken _ (sym (codes_compared on.After-same_bytes) ∙ c.if-same_bytes.true))

pub returns : goal.returns
unfolding judging
returns c =
    let on = goal.at.returns c in
    (sym (sym (codes_compared on.After-same_bytes) ∙ c.if-same_bytes.false), passed _ (sym (codes_compared on.After-same_bytes) ∙ c.if-same_bytes.false) refl)
