use mathlib.Core.Path.{◌≡◌, sym, ap, ◌∙◌}
use native.Mathlib.Omega.{arith}
use Prim.Native.Nat.{ℕ, ◌+◌}
use lib.ListN.{length, drop}
use mathlib.Core.List.{List}
use Rattle.bits.specs.Bits.{protected_count, protecting, protect_equal}
use Rattle.bits.proofs.ProtectionLaws.{equal_hit, equal_miss, equal_end}
use Rattle.bits.proofs.CountLaws.{count_protecting}
use Rattle.bits.proofs.Protection.protect.Goals as goal
use Rattle.bits.proofs.Protection.protect.Goals.{then-image-k, else-image-k}

pub loop-i-preserved : goal.loop-i-preserved
loop-i-preserved c =
    let a = c.args in
    let l = c.loop-i in
    let k : ℕ = a.at + l.i in
    let whole : List ℕ → List ℕ = λ t. protect_equal a.self.bits a.self.covered t (a.at + (l.i + 1)) (drop (l.i + 1) a.«data».now) in
    elim c.if-image-k.branch [
      | then-image-k w ↦
          let left : c.if-image-k.image ≡ protecting a.self.bits a.self.covered l.image k = w.image-is ∙ w.protect_one-more.ensures.image in (
            l.invariant.0 ∙ equal_hit a.self.bits a.self.covered l.image a.at l.i a.«data».now (omega arith) w.if-image-k.true ∙ ap whole (sym left),
            omega (
              arith,
              ap (protected_count a.self.bits a.self.covered) left,
              count_protecting a.self.bits a.self.covered l.image k (omega arith) (omega arith) (omega arith),
              w.protect_one-more.ensures.more,
              l.invariant.1,
              w.more-is,
            ),
            omega (arith, w.protect_one-more.ensures.more, l.invariant.2, w.more-is),
          )
      | else-image-k w ↦ (
        l.invariant.0 ∙ equal_miss a.self.bits a.self.covered l.image a.at l.i a.«data».now (omega arith) w.if-image-k.false ∙ ap whole (sym w.image-is),
        omega (arith, ap (protected_count a.self.bits a.self.covered) w.image-is, l.invariant.1, w.more-is),
        omega (arith, l.invariant.2, w.more-is),
      )
    ]

pub returns : goal.returns
returns c =
    let a = c.args in
    let l = c.loop-i in
    let all : l.i ≡ length a.«data».now = omega arith in record {
      image = sym (l.invariant.0 ∙ ap (λ (k : ℕ). protect_equal a.self.bits a.self.covered l.image (a.at + k) (drop k a.«data».now)) all
          ∙ equal_end a.self.bits a.self.covered l.image (a.at + length a.«data».now) a.«data».now);
      more = (l.invariant.1, omega (arith, l.invariant.2));
    }
