use mathlib.Core.Path.{sym, ap, ◌∙◌}
use native.Mathlib.Omega.{arith}
use Prim.Native.Nat.{ℕ, ◌-◌}
use Rattle.bits.specs.Bits.{first_protected}
use Rattle.bits.proofs.ProtectionLaws.{first_none, first_here, first_covered, first_past}
use Rattle.bits.proofs.Protection.first_protected.Goals as goal

pub loop-k-init : goal.loop-k-init
loop-k-init c =
    let a = c.args in (
      omega arith,
      omega arith,
      first_covered a.self.bits a.self.covered a.image.now a.«from» a.n
          ∙ ap (λ (to : ℕ). first_protected a.self.bits a.self.covered a.image.now a.«from» (to - a.«from»)) (sym c.least-to.ensures),
    )

pub loop-k-preserved : goal.loop-k-preserved
loop-k-preserved c =
    let l = c.loop-k in
    let a = c.args in
    let free = c.free_from-free in
    (omega arith, l.invariant.1, l.invariant.2 ∙ first_past a.self.bits a.self.covered a.image.now l.k _ free.result free.ensures.free)

pub returns-then-to-k-clause-first : goal.returns-then-to-k-clause-first
returns-then-to-k-clause-first c =
    let l = c.loop-k in
    let a = c.args in
    sym (l.invariant.2 ∙ first_none a.self.bits a.self.covered a.image.now l.k _ (omega arith))

pub returns-then-free-eq0-clause-first : goal.returns-then-free-eq0-clause-first
returns-then-free-eq0-clause-first c =
    let l = c.loop-k in
    let a = c.args in
    sym (l.invariant.2 ∙ first_here a.self.bits a.self.covered a.image.now l.k _ (omega arith) (c.free_from-free.ensures.none c.if-free-eq0.true))
