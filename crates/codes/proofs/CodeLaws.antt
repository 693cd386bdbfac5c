-- Laws of a presented code: the image keeps its length, its code and every byte but the counter, and the counter is left as it was,
-- with one try spent, or full.
use mathlib.Core.Path.{◌≡◌, refl, sym, ap, ◌∙◌}
use mathlib.Core.List.{List}
use mathlib.Core.Bool.{Bool, true, false}
use mathlib.Core.Logic.{◌≢◌}
use Prim.Native.Nat.{ℕ, ◌-◌, ◌<◌}
use native.Mathlib.Omega.{arith}
use lib.Dec.{eqb}
use lib.ListN.{length, take, set, length-set}
use lib.Seq.{drop-set-lt, get_or-set_same, get_or-set_other}
use borrow.Author.Tests.{eq-eqb, ne_eqb, eqb-true, eqb-false, not-true}
use Rattle.words.specs.Choice.{◌⇒◌⁏◌, ◌is◌}
use Rattle.words.specs.Bytes.{byte, same}
use Rattle.words.proofs.Choices.{first, rest, either, and_true}
use Rattle.codes.specs.Counters.{tries, spent}
use Rattle.codes.proofs.CounterLaws.{spent_ones, tries_none, tries_some}
use Rattle.codes.specs.Codes.{code_in, spending, judging, presenting, accepts}

pub length_spending : (counter : ℕ) (image : List ℕ) → length (spending counter image) ≡ length image
unfolding spending
length_spending counter image = length-set image counter _

-- a store before the code leaves it
pub code_after : (code digits : ℕ) (image : List ℕ) (k v : ℕ) → k < code → code_in code digits (set image k v) ≡ code_in code digits image
code_after code digits image k v h = ap (take digits) (drop-set-lt code image k v h)

module _ (counter full code digits : ℕ) (image guess : List ℕ) where
  -- "counter 0: nothing changes"
  pub presenting_none : byte image counter ≡ 0 → presenting counter full code digits image guess ≡ image
  unfolding presenting
  presenting_none e = first _ _ (eq-eqb _ _ e)

  -- what holds of the image before, with a try spent, and with a try spent and the counter full, holds after
  pub presenting_either : (P : List ℕ → Type 0) → P image → P (spending counter image) → P (set (spending counter image) counter full)
      → P (presenting counter full code digits image guess)
  unfolding presenting judging
  presenting_either P p q r = either P _ (λ _. p) (λ _. either P _ (λ _. r) (λ _. q))

  pub length_presenting : length (presenting counter full code digits image guess) ≡ length image
  length_presenting =
      presenting_either (λ (l : List ℕ). length l ≡ length image)
      refl
      (length_spending counter image)
      (length-set (spending counter image) counter full ∙ length_spending counter image)

  -- every byte but the counter stays
  pub byte_presenting : (k : ℕ) → k ≢ counter → byte (presenting counter full code digits image guess) k ≡ byte image k
  unfolding spending
  byte_presenting k h =
      presenting_either (λ (l : List ℕ). byte l k ≡ byte image k)
      refl
      (get_or-set_other image counter k _ 0 h)
      (get_or-set_other (spending counter image) counter k full 0 h ∙ get_or-set_other image counter k _ 0 h)

  module _ (before : counter < code) where
    -- the code is compared as it stood before the try was spent
    pub code_spending : code_in code digits (spending counter image) ≡ code_in code digits image
    unfolding spending
    code_spending = code_after code digits image counter _ before

    -- and is the same afterwards
    pub code_presenting : code_in code digits (presenting counter full code digits image guess) ≡ code_in code digits image
    code_presenting =
        presenting_either (λ (l : List ℕ). code_in code digits l ≡ code_in code digits image)
        refl code_spending
        (code_after code digits (spending counter image) counter full before ∙ code_spending)

    module _ (some : byte image counter ≢ 0) where
      -- "Equal: counter full, open"
      pub presenting_right : same guess (code_in code digits image) ≡ true → presenting counter full code digits image guess ≡ set (spending counter image) counter full
      unfolding presenting judging
      presenting_right e = rest _ _ (ne_eqb _ _ some) ∙ first _ _ (ap (same guess) code_spending ∙ e)

      -- "Not: closed", with the try spent
      pub presenting_wrong : same guess (code_in code digits image) ≡ false → presenting counter full code digits image guess ≡ spending counter image
      unfolding presenting judging
      presenting_wrong e = rest _ _ (ne_eqb _ _ some) ∙ rest _ _ (ap (same guess) code_spending ∙ e)

  module _ (inside : counter < length image) where
    pub byte_spending : byte (spending counter image) counter ≡ spent (byte image counter)
    unfolding spending
    byte_spending = get_or-set_same image counter _ 0 inside

    pub byte_full : byte (set (spending counter image) counter full) counter ≡ full
    byte_full = get_or-set_same (spending counter image) counter full 0 (omega (arith, length_spending counter image))

    -- an accepted code leaves the counter full
    pub accepts_full : accepts counter full code digits image guess ≡ true → byte (presenting counter full code digits image guess) counter ≡ full
    unfolding accepts presenting judging
    accepts_full e =
        let t = and_true _ _ e in
        ap (λ (l : List ℕ). byte l counter) (rest _ _ (not-true _ t.0) ∙ first _ _ t.1) ∙ byte_full

    -- ---- the tries
    module _ (before : counter < code) (small : byte image counter < 256) where
      zero_tries : byte image counter ≡ 0 → tries (byte image counter) ≡ 0
      zero_tries e = ap tries e ∙ tries_none

      zero_after : byte image counter ≡ 0 → tries (byte (presenting counter full code digits image guess) counter) ≡ 0
      zero_after e = ap (λ (l : List ℕ). tries (byte l counter)) (presenting_none e) ∙ zero_tries e

      -- a wrong code costs one, "stopping at zero"
      pub wrong_costs : same guess (code_in code digits image) ≡ false → tries (byte (presenting counter full code digits image guess) counter) ≡ tries (byte image counter) - 1
      wrong_costs wrong = go (eqb (byte image counter) 0) refl
        where
          go : (b : Bool) → eqb (byte image counter) 0 ≡ b → tries (byte (presenting counter full code digits image guess) counter) ≡ tries (byte image counter) - 1
          go true e = let z : byte image counter ≡ 0 = eqb-true _ _ e in omega (arith, zero_tries z, zero_after z)
          go false e =
              let some : byte image counter ≢ 0 = eqb-false _ _ e in
              omega (
                arith,
                ap (λ (l : List ℕ). tries (byte l counter)) (presenting_wrong before some wrong),
                ap tries byte_spending,
                spent_ones (byte image counter) (omega arith) small,
              )

      -- a right code that meets a try gives all of them
      pub right_gives : same guess (code_in code digits image) ≡ true
          → tries (byte (presenting counter full code digits image guess) counter) ≡ (tries (byte image counter) is 0 ⇒ 0 ⁏ tries full)
      right_gives right = go (eqb (byte image counter) 0) refl
        where
          go : (b : Bool) → eqb (byte image counter) 0 ≡ b
              → tries (byte (presenting counter full code digits image guess) counter) ≡ (tries (byte image counter) is 0 ⇒ 0 ⁏ tries full)
          go true e = let z : byte image counter ≡ 0 = eqb-true _ _ e in zero_after z ∙ sym (first _ _ (eq-eqb _ _ (zero_tries z)))
          go false e =
              let some : byte image counter ≢ 0 = eqb-false _ _ e in
              ap (λ (l : List ℕ). tries (byte l counter)) (presenting_right before some right)
              ∙ ap tries byte_full
              ∙ sym (rest _ _ (ne_eqb (tries (byte image counter)) 0 (λ k. omega (arith, tries_some (byte image counter) (omega arith) small))))
