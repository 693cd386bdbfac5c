-- `page_order` meets its contract: a page code in 03h to 07h is its power of two.
use mathlib.Core.Path.{◌≡◌, sym, ap, ◌∙◌}
use native.Mathlib.Omega.{arith}
use Prim.Native.Nat.{ℕ, ◌*◌, ◌%◌, ◌^◌, ◌≤◌}
use lib.Pow.{pow_mono}
use borrow.Author.Tests.{leb-true}
use Rattle.std.specs.Prelude.{Ok}
use Rattle.words.proofs.Choices.{choices}
use Rattle.steps.specs.declared.Order.{Order}
use Rattle.steps.specs.Steps.{steps, reaching}
use Rattle.steps.proofs.page_order.Goals as goal
use Rattle.steps.proofs.page_order.Goals.{then-v-ge3, else-v-ge3}

pub returns : goal.returns
unfolding steps reaching
returns c =
    let v = c.args.v in
    let most : v ≤ 7 = elim c.if-v-ge3.branch [
      | then-v-ge3 w ↦ leb-true v 7 (sym w.unless-is ∙ c.in_ok-unless-5.ensures)
      | else-v-ge3 w ↦ omega (arith, w.if-v-ge3.false)
    ] in
    let small : 2 ^ v ≤ 2 ^ 7 = pow_mono most in
    let e : 1 * 2 ^ v % 256 ≡ 2 ^ v = omega (arith, small) in
    ap (λ (n : ℕ). Ok (Order.Page n)) e ∙ grind (arith, choices)
