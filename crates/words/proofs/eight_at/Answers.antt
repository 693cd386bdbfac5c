-- `eight_at` meets its contract: each half is the number of four bytes, and no sum of the two wraps.
use Prim.Native.Nat.{◌+◌, ◌<◌}
use native.Mathlib.Omega.{arith}
use Rattle.words.specs.Bytes.{eight_at}
use Rattle.words.proofs.Lists.{four_fits}
use Rattle.words.proofs.eight_at.Goals as goal
use Rattle.words.proofs.eight_at.Goals.{After-four_at-2}

-- each half fits four bytes
halves_fit : (c : After-four_at-2) → (c.four_at.result < 4294967296) × (c.four_at-2.result < 4294967296)
halves_fit c =
    let a = c.args in
    (rw c.four_at.ensures (four_fits a.s.now a.k (λ i. (c.type_inv.s i).fits)), rw c.four_at-2.ensures (four_fits a.s.now (a.k + 4) (λ i. (c.type_inv.s i).fits)))

pub overflow_add-result : goal.overflow_add-result
overflow_add-result c = let h = halves_fit (goal.at.overflow_add-result c).After-four_at-2 in record { fits = omega arith }

pub returns : goal.returns
unfolding eight_at
returns c = let h = halves_fit (goal.at.returns c).After-four_at-2 in omega (arith, c.four_at.ensures, c.four_at-2.ensures)
