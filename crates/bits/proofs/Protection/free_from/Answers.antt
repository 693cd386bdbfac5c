-- `free_from` meets its contract: four bytes that make FFFFFFFFh are FFh, and else the ones of the byte count.
use mathlib.Core.Path.{sym, ◌∙◌}
use native.Mathlib.Omega.{arith}
use Rattle.bits.proofs.ScanLaws.{few_free, four_free}
use Rattle.bits.proofs.Protection.free_from.Goals as goal

pub returns-then-four_at-eq4294967295 : goal.returns-then-four_at-eq4294967295
returns-then-four_at-eq4294967295 c =
    let a = c.args in
    let full = sym c.four_at.ensures ∙ c.if-four_at-eq4294967295.true in
    four_free a.self.bits a.self.covered a.image.now a.k (λ i. omega (arith, c.type_inv.image i)) full

pub returns : goal.returns
returns c =
    let a = c.args in
    few_free a.self.bits a.self.covered a.image.now a.k c.ones_from.result (omega arith) c.ones_from.ensures
