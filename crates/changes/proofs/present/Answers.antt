-- `present` meets its contract: the code is presented, 90 and the counter afterwards are said and its tries kept; a right code opens, any other closes.
use mathlib.Core.Path.{◌≡◌, refl, sym, ap, ap₂, ◌∙◌}
use mathlib.Core.List.{[], ◌∷◌}
use native.Mathlib.Omega.{arith}
use Prim.Native.Nat.{ℕ}
use lib.ListN.{length}
use Rattle.words.specs.Bytes.{byte, over}
use Rattle.words.proofs.Choices.{taken, passed}
use Rattle.words.proofs.Lists.{over_pair, same_four}
use Rattle.chips.specs.declared.Facts.{Facts}
use Rattle.chips.specs.Kinds.{facts}
use Rattle.slot.specs.Slots.{opened, closed, tries_as}
use Rattle.counts.specs.Counts.{tries_in}
use Rattle.codes.specs.Counters.{tries}
use Rattle.codes.specs.Codes.{presenting, accepts}
use Rattle.orders.specs.Orders.{after_code, right_code, said_by, image_by, slot_by, performed}
use Rattle.changes.proofs.present.Goals as goal
use Rattle.changes.proofs.present.Goals.{After-present-opens, After-put_two-len, After-with_tries-counted}

-- ---- what the presentation left
numbers : {A : Type 0} (p : After-present-opens) (g : ℕ → ℕ → ℕ → ℕ → A) → let a = p.args in
    let f = facts a.chip in
    g p.facts-counter.result.counter p.facts.result.full p.facts-2.result.code
    (length a.guess.now)
    ≡ g f.counter f.full f.code f.digits
numbers p g =
    same_four (ap (λ (f : Facts). f.counter) p.facts-counter.ensures) (ap (λ (f : Facts). f.full) p.facts.ensures)
    (ap (λ (f : Facts). f.code) p.facts-2.ensures) p.requires.3 g

code_after : (p : After-present-opens) → let a = p.args in
    p.present-opens.new.image
    ≡ after_code (facts a.chip) a.image.now a.guess.now
code_after p =
    let a = p.args in
    p.present-opens.ensures.1 ∙ numbers p (λ x y z w. presenting x y z w a.image.now a.guess.now)

right : (p : After-present-opens) → let a = p.args in
    right_code (facts a.chip) a.image.now a.guess.now
    ≡ p.present-opens.result
right p =
    let a = p.args in
    sym (p.present-opens.ensures.0 ∙ numbers p (λ x y z w. accepts x y z w a.image.now a.guess.now))

counter_after : (p : After-present-opens) → let a = p.args in
    byte p.present-opens.new.image p.facts-counter.result.counter
    ≡ byte (after_code (facts a.chip) a.image.now a.guess.now) (facts a.chip).counter
counter_after p =
    ap₂ byte (code_after p) (ap (λ (f : Facts). f.counter) p.facts-counter.ensures)

-- 90 and the counter are said
said : (q : After-put_two-len) → let a = q.args in
    q.put_two-len.new.out ≡ over (0x90 ∷ byte (after_code (facts a.chip) a.image.now a.guess.now) (facts a.chip).counter ∷ []) a.out.now
said q =
    let a = q.args in
    q.put_two-len.ensures.1 ∙ over_pair a.out.now 0x90 _ (omega arith) ∙ ap (λ (x : ℕ). over (0x90 ∷ x ∷ []) a.out.now)
    (counter_after (goal.at.After-put_two-len q).After-present-opens)

-- and its tries kept
counted : (w : After-with_tries-counted) → let a = w.args in
    w.with_tries-counted.result ≡ tries_as (tries_in (facts a.chip) (after_code (facts a.chip) a.image.now a.guess.now)) a.slot
counted w =
    let a = w.args in
    w.with_tries-counted.ensures ∙ ap (λ (n : ℕ). tries_as n a.slot) (w.tries_left.ensures ∙ ap tries (counter_after (goal.at.After-with_tries-counted w).After-present-opens))

-- "Equal: .. open. Not: closed"
pub returns-then-opens : goal.returns-then-opens
unfolding performed said_by image_by slot_by
returns-then-opens c =
    let on = goal.at.returns-then-opens c in
    record {
      len = c.put_two-len.ensures.0;
      slot = c.open-slot.ensures ∙ ap opened (counted on.After-with_tries-counted) ∙ taken _ (right on.After-present-opens ∙ c.if-opens.true);
      image = code_after on.After-present-opens;
      out = said on.After-put_two-len;
    }

pub returns-else-opens : goal.returns-else-opens
unfolding performed said_by image_by slot_by
returns-else-opens c =
    let on = goal.at.returns-else-opens c in
    record {
      len = c.put_two-len.ensures.0;
      slot = c.close-slot.ensures ∙ ap closed (counted on.After-with_tries-counted) ∙ passed _ (right on.After-present-opens ∙ c.if-opens.false) refl;
      image = code_after on.After-present-opens;
      out = said on.After-put_two-len;
    }
