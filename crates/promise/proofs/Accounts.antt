-- The tries that a history leaves: the fold over its events and the sentence's own form are one number.
use Prim.Native.Nat.{ℕ, suc, ◌+◌, ◌-◌}
use mathlib.Core.Path.{◌≡◌, refl, sym, ap, ◌∙◌}
use mathlib.Core.Bool.{Bool, true, false}
use mathlib.Core.List.{List, [], ◌∷◌, ◌++◌}
use mathlib.Core.Logic.{◌≢◌}
use native.Mathlib.Omega.{arith}
use lib.Dec.{eqb}
use borrow.Author.Tests.{eqb-true, ne_eqb, not-false}
use Rattle.words.specs.Choice.{◌⇒◌⁏◌, ◌is◌}
use Rattle.words.proofs.Choices.{first, rest, or_false}
use Rattle.promise.specs.Tries.{Event, none, wrong, right, after, tries_after, Account, wrongs, left, entered, account, came_with, tries_left, renewed}

-- one event more: its own cost is added
abbrev cost : Event → ℕ
cost none = 0
cost wrong = 1
cost right = 0

wrongs_snoc : (es : List Event) (e : Event) → wrongs (es ++ (e ∷ [])) ≡ wrongs es + cost e
unfolding wrongs
wrongs_snoc [] none = refl
wrongs_snoc [] wrong = refl
wrongs_snoc [] right = refl
wrongs_snoc (none ∷ es) e = wrongs_snoc es e
wrongs_snoc (wrong ∷ es) e = ap suc (wrongs_snoc es e) ∙ omega arith
wrongs_snoc (right ∷ es) e = wrongs_snoc es e

left_entered : (full : ℕ) (a : Account) (e : Event) → left (entered full a e) ≡ after full (left a) e
unfolding left wrongs ◌⇒◌⁏◌
left_entered full a none = omega (arith, wrongs_snoc a.since none)
left_entered full a wrong = omega (arith, wrongs_snoc a.since wrong)
left_entered full a right = go (eqb (left a) 0) refl
  where
    go : (b : Bool) → eqb (left a) 0 ≡ b → left (b ⇒ record { counted = a.counted; since = a.since ++ (right ∷ []) } ⁏ record { counted = full; since = [] }) ≡ (b ⇒ 0 ⁏ full)
    go true e = omega (arith, wrongs_snoc a.since right, eqb-true (left a) 0 e)
    go false e = omega arith

account_left : (full : ℕ) (a : Account) (es : List Event) → tries_after full (left a) es ≡ left (account full a es)
unfolding tries_after account
account_left full a [] = refl
account_left full a (e ∷ es) = ap (λ (t : ℕ). tries_after full t es) (sym (left_entered full a e)) ∙ account_left full (entered full a e) es

pub fold_is_account : (full t : ℕ) (es : List Event) → tries_after full t es ≡ tries_left full t es
unfolding tries_left left wrongs
fold_is_account full t es =
    let e : t ≡ t - 0 = omega arith in
    ap (λ (n : ℕ). tries_after full n es) e ∙ account_left full (came_with t) es

-- ---- the sentence read off
-- a history is told in parts
pub after_append : (full t : ℕ) (es fs : List Event) → tries_after full t (es ++ fs) ≡ tries_after full (tries_after full t es) fs
unfolding tries_after
after_append full t [] fs = refl
after_append full t (e ∷ es) fs = after_append full (after full t e) es fs

-- while no right code met a try: "those it came with .. less the wrong codes"
after_renewed : (full t : ℕ) (es : List Event) → renewed t es ≡ false → tries_after full t es ≡ t - wrongs es
unfolding tries_after renewed wrongs
after_renewed full t [] h = omega arith
after_renewed full t (none ∷ es) h = after_renewed full t es h
after_renewed full t (wrong ∷ es) h = after_renewed full (t - 1) es h ∙ omega arith
after_renewed full t (right ∷ es) h =
    let k = or_false _ _ h in
    ap (λ (n : ℕ). tries_after full n es) (first _ _ (not-false _ k.0) ∙ sym (eqb-true _ _ (not-false _ k.0))) ∙ after_renewed full t es k.1

pub none_met : (full t : ℕ) (es : List Event) → renewed t es ≡ false → tries_left full t es ≡ t - wrongs es
none_met full t es h = sym (fold_is_account full t es) ∙ after_renewed full t es h

-- "or all of them since the last right code that met a try, less the wrong codes since"
pub last_met : (full t : ℕ) (es fs : List Event) → tries_left full t es ≢ 0 → renewed full fs ≡ false → tries_left full t (es ++ (right ∷ fs)) ≡ full - wrongs fs
unfolding tries_after
last_met full t es fs some h =
    let e : tries_after full t es is 0 ≡ false = ap (λ (n : ℕ). n is 0) (fold_is_account full t es) ∙ ne_eqb _ _ some in
    sym (fold_is_account full t (es ++ (right ∷ fs)))
    ∙ after_append full t es (right ∷ fs)
    ∙ ap (λ (n : ℕ). tries_after full n fs) (rest _ _ e)
    ∙ after_renewed full full fs h
