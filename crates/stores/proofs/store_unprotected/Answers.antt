use mathlib.Core.Path.{◌≡◌, refl, sym, ap, ◌∙◌}
use mathlib.Core.Bool.{Bool}
use mathlib.Core.List.{List}
use native.Mathlib.Omega.{arith}
use native.Mathlib.Nat.{add-zero}
use Prim.Native.Nat.{ℕ, ◌+◌, ◌-◌}
use lib.ListN.{length, take, drop}
use lib.Seq.{sets}
use borrow.Author.Tests.{eq-eqb, ne_eqb}
use Rattle.words.specs.Choice.{◌and◌, ◌is◌}
use Rattle.words.specs.Bytes.{byte}
use Rattle.words.proofs.Choices.{and_end, and_holds, and_fails, and_last}
use Rattle.words.proofs.Lists.{tail_is}
use Rattle.bits.specs.Bits.{first_protected}
use Rattle.std.specs.Prelude.{None}
use Rattle.stores.specs.Stores.{storing, ends_equal}
use Rattle.stores.proofs.StoreLaws.{run_long, turn_stored, turn_ends, rest_stored, rest_ends}
use Rattle.stores.proofs.store_unprotected.Goals as goal
use Rattle.stores.proofs.store_unprotected.Goals.{then-image-k, else-image-k}

pub loop-k-init : goal.loop-k-init
unfolding ◌and◌
loop-k-init c =
    let a = c.args in
    let from : a.at ≡ a.at + 0 = sym (add-zero a.at) in (
      omega arith,
      ap (λ (k : ℕ). storing a.protection.bits a.protection.covered a.image.now k a.«data».now) from,
      ap (λ (k : ℕ). ends_equal (storing a.protection.bits a.protection.covered a.image.now a.at a.«data».now) k a.«data».now) from,
    )

-- ---- it found a protected byte
pub loop-k-preserved : goal.loop-k-preserved
loop-k-preserved c =
    let l = c.loop-k in
    let a = c.args in
    let k : ℕ = c.in-Some.k in
    let end : ℕ = k - a.at in
    let vs : List ℕ = a.«data».now in
    let whole : List ℕ = storing a.protection.bits a.protection.covered a.image.now a.at vs in
    let after : List ℕ = sets l.image (a.at + l.i) (take (end - l.i) (drop l.i vs)) in
    let here = turn_ends a.protection.bits a.protection.covered l.image a.at l.i k vs (omega arith) (omega arith) (sym c.in-Some.ensures.first) (omega arith) in
    let left : Bool = ends_equal whole (a.at + (end + 1)) (drop (end + 1) vs) in
    let seen : ends_equal whole (a.at + l.i) (drop l.i vs) ≡ (byte c.store.new.image k is byte vs end and left) =
    ap (λ (x : List ℕ). ends_equal x (a.at + l.i) (drop l.i vs)) l.invariant.1
    ∙ here
    ∙ ap (λ (x : List ℕ). byte after k is byte vs end and ends_equal x (a.at + (end + 1)) (drop (end + 1) vs)) (sym l.invariant.1)
    ∙ ap (λ (x : List ℕ). byte x k is byte vs end and left) (sym c.store.ensures) in (
      omega (arith, c.in-Some.ensures.within),
      l.invariant.1
          ∙ turn_stored a.protection.bits a.protection.covered l.image a.at l.i k vs (omega arith) (omega arith) (sym c.in-Some.ensures.first)
          ∙ ap (λ (x : List ℕ). storing a.protection.bits a.protection.covered x (a.at + (end + 1)) (drop (end + 1) vs)) (sym c.store.ensures),
      l.invariant.2 ∙ ap (λ (b : Bool). l.equal and b) seen
          ∙ (elim c.if-image-k.branch [
            | then-image-k w ↦ and_last l.equal (sym (and_fails left (ne_eqb _ _ w.if-image-k.true))) ∙ and_fails left w.equal-is
            | else-image-k w ↦ ap (λ (b : Bool). l.equal and b) (sym (and_holds (eq-eqb _ _ w.if-image-k.false) refl)) ∙ ap (λ (b : Bool). b and left) (sym w.equal-is)
          ]),
    )

-- ---- it found none
pub returns : goal.returns
returns c =
    let l = c.loop-k in
    let a = c.args in
    let none : first_protected a.protection.bits a.protection.covered l.image (a.at + l.i) (length a.«data».now - l.i) ≡ None =
    sym c.in_default.ensures.first in
    let whole = storing a.protection.bits a.protection.covered a.image.now a.at a.«data».now in
    let left = rest_ends a.protection.bits a.protection.covered l.image a.at l.i a.«data».now (omega arith) (omega arith) none (omega arith) in
    let stored : c.store-2.new.image ≡ whole =
    c.store-2.ensures
    ∙ ap (sets l.image (a.at + l.i)) (tail_is l.i a.«data».now)
    ∙ sym (l.invariant.1 ∙ rest_stored a.protection.bits a.protection.covered l.image a.at l.i a.«data».now (omega arith) (omega arith) none) in record {
      stored = stored;
      report = sym (ap (λ (x : List ℕ). ends_equal x a.at a.«data».now) stored
          ∙ l.invariant.2
          ∙ ap (λ (b : Bool). l.equal and b) (ap (λ (x : List ℕ). ends_equal x (a.at + l.i) (drop l.i a.«data».now)) l.invariant.1 ∙ left)
          ∙ and_end l.equal);
    }
