-- `protect` meets its contract: the equal bytes become protected, those that were not before are counted, and 90 00 is said.
use mathlib.Core.Path.{◌≡◌, ap, ap₂, ◌∙◌}
use native.Mathlib.Omega.{arith}
use mathlib.Core.List.{List}
use Prim.Native.Nat.{ℕ, ◌+◌, ◌≤◌}
use Rattle.words.proofs.Lists.{over_pair}
use Rattle.chips.specs.declared.Facts.{Facts}
use Rattle.chips.specs.Kinds.{facts}
use Rattle.chips.proofs.KindLaws.{laid}
use Rattle.bits.specs.Bits.{protected_count, protect_equal}
use Rattle.bits.proofs.CountLaws.{count_within}
use Rattle.slot.specs.Slots.{protected_as}
use Rattle.counts.specs.Counts.{count_in}
use Rattle.orders.specs.Orders.{said_by, image_by, slot_by, performed}
use Rattle.changes.proofs.protect.Goals as goal
use Rattle.changes.proofs.protect.Goals.{After-protect-more}

-- ---- what the protection left
numbers : {A : Type 0} (p : After-protect-more) (g : ℕ → ℕ → A) → let f = facts p.args.chip in
    g p.protection.result.bits p.protection.result.covered ≡ g f.bits f.covered
numbers p g = ap₂ g p.protection.ensures.0 p.protection.ensures.1

image_after : (p : After-protect-more) → let a = p.args in let f = facts a.chip in
    p.protect-more.new.image ≡ protect_equal f.bits f.covered a.image.now a.at a.«data».now
image_after p =
    let a = p.args in
    p.protect-more.ensures.image ∙ numbers p (λ x y. protect_equal x y a.image.now a.at a.«data».now)

-- the number of protected bytes is the slot's, and those more
counted : (p : After-protect-more) → let a = p.args in let f = facts a.chip in
    a.slot.protected + p.protect-more.result ≡ count_in f (protect_equal f.bits f.covered a.image.now a.at a.«data».now)
counted p =
    let a = p.args in
    let f = facts a.chip in
    omega (
      arith,
      p.requires.3,
      p.protect-more.ensures.more.0,
      numbers p (λ x y. protected_count x y p.protect-more.new.image),
      numbers p (λ x y. protected_count x y a.image.now),
      ap (count_in f) (image_after p),
    )

-- which two bytes hold
within : (p : After-protect-more) → p.args.slot.protected + p.protect-more.result ≤ 1024
within p =
    let a = p.args in
    let f = facts a.chip in
    let next : List ℕ = protect_equal f.bits f.covered a.image.now a.at a.«data».now in
    omega (arith, counted p, count_within f.bits f.covered next, (laid a.chip).few)

pub overflow_add-slot : goal.overflow_add-slot
overflow_add-slot c = omega (arith, within (goal.at.overflow_add-slot c).After-protect-more)

pub returns : goal.returns
unfolding performed said_by image_by slot_by
returns c =
    let a = c.args in
    record {
      len = c.done.ensures.0;
      slot = c.done.ensures.1 ∙ c.with_protected-next.ensures ∙ ap (λ (n : ℕ). protected_as n a.slot) (counted (goal.at.returns c).After-protect-more);
      image = image_after (goal.at.returns c).After-protect-more;
      out = c.done.ensures.2 ∙ over_pair a.out.now 0x90 0x00 (omega (arith, c.requires.0));
    }
