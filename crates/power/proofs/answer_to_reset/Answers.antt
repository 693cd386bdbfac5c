-- `answer_to_reset` meets its contract: two bytes, or six.
use mathlib.Core.Path.{◌≡◌, refl, sym, ap, ◌∙◌}
use mathlib.Core.Bool.{not}
use mathlib.Core.List.{List, [], ◌∷◌}
use native.Mathlib.Omega.{arith}
use Prim.Native.Nat.{ℕ}
use lib.ListN.{length, take, set}
use lib.Seq.{length-take-le}
use borrow.Author.Tests.{eq-eqb, ne_eqb}
use Rattle.words.specs.Bytes.{over}
use Rattle.words.proofs.Choices.{first, rest}
use Rattle.words.proofs.Lists.{over_pair, over_lent}
use Rattle.copies.specs.Blocks.{block}
use Rattle.chips.specs.declared.Facts.{Facts}
use Rattle.chips.specs.Kinds.{facts}
use Rattle.chips.proofs.KindLaws.{laid}
use Rattle.frame.specs.Exchange.{reset}
use Rattle.power.proofs.answer_to_reset.Goals as goal

pub returns-then-facts-ne0 : goal.returns-then-facts-ne0
unfolding reset
returns-then-facts-ne0 c =
    let a = c.args in
    let page = ap (λ (f : Facts). f.page) c.facts.ensures in
    let e : reset (facts a.chip) a.image.now ≡ 0x3B ∷ 0x00 ∷ [] = first _ _ (ap not (ne_eqb _ 0 (λ z. c.if-facts-ne0.true (page ∙ z)))) in
    let put = c.put_two.ensures in (
      put.0 ∙ sym (ap length e),
      put.1 ∙ over_pair a.out.now 0x3B 0x00 (omega arith) ∙ ap (λ (l : List ℕ). over l a.out.now) (sym e),
      omega (arith, put.0),
    )

-- the first two bytes of six
abbrev begun : List ℕ → List ℕ
begun out = set (set out 0 0x3B) 1 0x04

pub returns : goal.returns
unfolding reset block
returns c =
    let a = c.args in
    let im : List ℕ = a.image.now in
    let out : List ℕ = a.out.now in
    let page = ap (λ (f : Facts). f.page) c.facts.ensures in
    let e : reset (facts a.chip) im ≡ 0x3B ∷ 0x04 ∷ take 4 im = rest _ _ (ap not (eq-eqb _ 0 (sym page ∙ c.if-facts-ne0.false))) in
    let four : length (take 4 im) ≡ 4 = length-take-le 4 im (omega (arith, (laid a.chip).four, c.requires.0)) in (
      omega (arith, ap length e, four),
      over_lent 2 (begun out) (0x3B ∷ 0x04 ∷ []) (take 4 im) out (over_pair out 0x3B 0x04 (omega (arith, c.requires.1))) refl c.lay_block.ensures
          ∙ ap (λ (l : List ℕ). over l out) (sym e),
      omega arith,
    )
