use mathlib.Core.Path.{◌≡◌, refl, sym, ap, ◌∙◌}
use native.Mathlib.Omega.{arith}
use Prim.Native.Nat.{ℕ, ◌-◌}
use Rattle.reads.specs.Inner.{blanked}
use Rattle.reads.proofs.ReadLaws.{blank_before, blank_behind, blank_here, blanked_none, blanked_more}
use Rattle.reads.proofs.blank.Goals as goal
use Rattle.reads.proofs.blank.Goals.{then-at-k+then-k-end, else-at-k, else-at-k-via-then-at-k+else-k-end, else-at-k-via-else-at-k}

pub loop-k-init : goal.loop-k-init
loop-k-init c =
    let a = c.args in
    let e : a.code - a.code ≡ 0 = omega arith in
    record {
      same_length = refl;
      blanked_so_far = sym (ap (λ (m : ℕ). blanked a.at a.end a.code m a.out.now) e ∙ blanked_none a.at a.end a.code a.out.now);
    }

pub loop-k-preserved : goal.loop-k-preserved
loop-k-preserved c =
    let a = c.args in
    let l = c.loop-k in
    record {
      same_length = c.if-at-k.auto.out ∙ l.invariant.same_length;
      blanked_so_far = blanked_more a.at a.end a.code l.k a.out.now l.auto.k l.invariant.blanked_so_far
          (elim c.if-at-k.branch [
            | then-at-k+then-k-end w ↦ w.out-is ∙ sym (blank_here a.at a.end l.k l.out w.if-at-k.true w.if-k-end.true)
            | else-at-k w ↦
                elim w.else-at-k.branch [
                  | else-at-k-via-then-at-k+else-k-end w' ↦ w.out-is ∙ sym (blank_behind a.at a.end l.k l.out w'.if-at-k.true w'.if-k-end.false)
                  | else-at-k-via-else-at-k w' ↦ w.out-is ∙ sym (blank_before a.at a.end l.k l.out w'.if-at-k.false)
                ]
          ]);
    }
