-- The decision taken apart once: an order refuses, or every step let the command through; its converse; and what an order that is let
-- through may count on.
use Rattle.std.specs.Prelude.{Result, Ok, Err}
use Prim.Native.Nat.{ℕ, ◌+◌, ◌^◌, ◌≤◌, ◌<◌}
use mathlib.Core.Path.{◌≡◌, refl, sym, ap, ap₂, ◌∙◌}
use mathlib.Core.List.{List}
use mathlib.Core.Bool.{Bool, true, false, not}
use mathlib.Core.Logic.{◌⊎◌, inl, inr}
use native.Mathlib.Omega.{arith}
use lib.ListN.{length, length-drop}
use lib.Dec.{leb, ltb}
use borrow.Author.Tests.{eqb-true, eq-eqb, leb-true, ltb-true, ltb-false, le-ltb, not-false}
use Rattle.words.specs.Choice.{◌⇒◌⁏◌, ◌and◌, ◌or◌, ◌is◌}
use Rattle.words.specs.Bytes.{byte}
use Rattle.words.proofs.Choices.{past, either, rest, and_true, or_true, choices}
use Rattle.chips.specs.declared.Facts.{Facts}
use Rattle.slot.specs.declared.Slot.{Slot}
use Rattle.steps.specs.declared.Status.{Status}
use Rattle.steps.specs.declared.Order.{Order}
use Rattle.steps.specs.Fits.{Fit, Short}
use Rattle.steps.specs.declared.Ins.{Ins}
use Rattle.steps.specs.declared.Ins.TheVariants.{Select, Page, Read, Counter, Bits, Write, Protect, Present, Change, Other}
use Rattle.steps.specs.Steps.{ins_of, p1p2, p3, body, meant, top, known}
use Rattle.steps.specs.Steps.{needs_type, has, following, length_fits, place_fits, range_test, place_of, value_fits, needs_open, ordered, reaching, steps, order}

-- the range test answers the address that it took, where it fits
pub ranged_at : (f : Facts) (i : Ins) (a n : ℕ) {at : ℕ} → range_test f i a n ≡ Ok at → (a ≡ at) × (place_fits f i a n ≡ true)
unfolding range_test
ranged_at f i a n {at} e =
    either (λ (r : Result ℕ Status). r ≡ Ok at → (a ≡ at) × (place_fits f i a n ≡ true)) (place_fits f i a n)
    (λ t q. (cc, t))
    (λ _ q. absurd (let z : ◌≡◌ {A = ℕ} 0 1 = cc in omega arith)) e

-- INS of a pseudo-APDU as it came, and what the range test answers of it
abbrev ins_in : List ℕ → Ins
ins_in d = ins_of (byte d 1)

abbrev place_in : Facts → List ℕ → Result ℕ Status
place_in f d = place_of f (ins_in d) (p1p2 d) (p3 d)

-- every step passed, INS meaning i and the address being `at`
pub record Passed (f : Facts) (s : Slot) (d : List ℕ) (i : Ins) (at : ℕ) : Type 0 where
  pub five : 5 ≤ length d
  pub class : byte d 0 ≡ 0xFF
  pub ins : meant f (ins_in d) ≡ i
  pub is_known : known i ≡ true
  pub ready : needs_type i and s.selected is 0 ≡ false
  pub had : has f i ≡ true
  pub long : length d ≡ 5 + following i (p3 d)
  pub measured : length_fits f i (p3 d) ≡ true
  pub ranged : place_in f d ≡ Ok at
  pub valued : value_fits f i (byte d 5) ≡ true
  pub allowed : needs_open i and f.coded and not s.«open» ≡ false

-- its address is P1P2 with the top bit that INS carries, and fits
pub placed : {f : Facts} {s : Slot} {d : List ℕ} {i : Ins} {at : ℕ} → Passed f s d i at → (top f (ins_in d) + p1p2 d ≡ at) × (place_fits f i at (p3 d) ≡ true)
placed {f} {s} {d} {i} {at} q =
    let r = ranged_at f (meant f (ins_in d)) (top f (ins_in d) + p1p2 d) (p3 d) q.ranged in
    (r.0, ap₂ (λ (j : Ins) (a : ℕ). place_fits f j a (p3 d)) (sym q.ins) (sym r.0) ∙ r.1)

pub data Decided (f : Facts) (s : Slot) (d : List ℕ) : Result Order Status → Type 0 where
  refused : (status : Status) → Decided f s d (Err status)
  through : (i : Ins) (at : ℕ) → Passed f s d i at → Decided f s d (ordered i at (p3 d) (byte d 5))

-- steps 7 to 9: an address, and the rest of the steps; or none
decided_from7 : (f : Facts) (s : Slot) (d : List ℕ) (r : Result ℕ Status)
    → ((at : ℕ) → r ≡ Ok at → value_fits f (meant f (ins_in d)) (byte d 5) ≡ true
    → needs_open (meant f (ins_in d)) and f.coded and not s.«open» ≡ false → Passed f s d (meant f (ins_in d)) at)
    → Decided f s d (reaching f s (p3 d) (byte d 5) (meant f (ins_in d)) r)
unfolding reaching
decided_from7 f s d (Err status) q = refused status
decided_from7 f s d (Ok at) q =
    past (Decided f s d) _ (refused Status.Value) (λ e8.
    past (Decided f s d) _ (refused Status.Denied) (λ e9.
    through (meant f (ins_in d)) at (q at refl (not-false _ e8) e9)))

pub decided : (f : Facts) (s : Slot) (d : List ℕ) → Decided f s d (order f s d)
unfolding order steps
decided f s d =
    past (Decided f s d) _ (refused Status.Length) (λ e1.
    past (Decided f s d) _ (refused Status.Class) (λ e2.
    past (Decided f s d) _ (refused Status.Instruction) (λ e3.
    past (Decided f s d) _ (refused Status.Unselected) (λ e4.
    past (Decided f s d) _ (refused Status.Instruction) (λ e5.
    past (Decided f s d) _ (refused Status.Length) (λ e6.
    past (Decided f s d) _ (refused Status.Length) (λ e6'.
    decided_from7 f s d (place_in f d) (λ at e7 e8 e9. record {
      five = ltb-false _ _ e1;
      class = eqb-true _ _ (not-false _ e2);
      ins = refl;
      is_known = not-false _ e3;
      ready = e4;
      had = not-false _ e5;
      long = eqb-true _ _ (not-false _ e6);
      measured = not-false _ e6';
      ranged = e7;
      valued = e8;
      allowed = e9;
    }))))))))

-- past the first two steps the rest decide
pub order_on : (f : Facts) (s : Slot) (d : List ℕ) → 5 ≤ length d → byte d 0 ≡ 0xFF
    → order f s d ≡ steps f s (length d) (p3 d) (byte d 5) (meant f (ins_in d)) (place_in f d)
unfolding order
order_on f s d h e = rest _ _ (le-ltb (length d) 5 h) ∙ rest _ _ (ap not (eq-eqb _ 0xFF e))

-- the converse: passing every step gives the order
pub passed_order : {f : Facts} {s : Slot} {d : List ℕ} {i : Ins} {at : ℕ} → Passed f s d i at → order f s d ≡ ordered i at (p3 d) (byte d 5)
unfolding steps reaching
passed_order {f} {s} {d} {i} {at} q =
    order_on f s d q.five q.class ∙ ap (λ (j : Ins). steps f s (length d) (p3 d) (byte d 5) j (place_in f d)) q.ins
    ∙ grind (arith, choices, q.is_known, q.ready, q.had, q.long, q.measured, q.ranged, q.valued, q.allowed)

body_length : (d : List ℕ) (n : ℕ) → length d ≡ 5 + n → length (body d) ≡ n
body_length d n e = omega (arith, length-drop 5 d)

page_bounds : (v : ℕ) → leb 3 v and leb v 7 ≡ true → (8 ≤ 2 ^ v) × (2 ^ v ≤ 128)
page_bounds v e = go v (leb-true _ _ (and_true _ _ e).0) (leb-true _ _ (and_true _ _ e).1)
  where
    go : (v : ℕ) → 3 ≤ v → v ≤ 7 → (8 ≤ 2 ^ v) × (2 ^ v ≤ 128)
    go v h k = (lib.Pow.pow_mono h, lib.Pow.pow_mono k)

module _ (f : Facts) (s : Slot) (d : List ℕ) where
  few : (n : ℕ) → (f.selects is 0x05 ⇒ leb 1 n and leb n 32 ⁏ n is 4) ≡ true → n ≤ 32
  few n e =
      either (λ (t : Bool). t ≡ true → n ≤ 32) (f.selects is 0x05)
      (λ _ h. leb-true _ _ (and_true _ _ h).1)
      (λ _ h. omega (arith, eqb-true n 4 h)) e

  apart : (at n : ℕ) → leb (at + n) f.counter or ltb f.counter at ≡ true → (at + n ≤ f.counter) ⊎ (f.counter < at)
  apart at n e = go (or_true _ _ e)
    where
      go : (leb (at + n) f.counter ≡ true) ⊎ (ltb f.counter at ≡ true) → (at + n ≤ f.counter) ⊎ (f.counter < at)
      go (inl h) = inl (leb-true _ _ h)
      go (inr h) = inr (ltb-true _ _ h)

  fit_passed : (i : Ins) (at : ℕ) → Passed f s d i at → Fit f (body d) (ordered i at (p3 d) (byte d 5))
  fit_passed Select at p = tt
  fit_passed Page at p = page_bounds (byte d 5) p.valued
  fit_passed Read at p = (leb-true _ _ (placed p).1, leb-true _ _ p.measured)
  fit_passed Counter at p = (p.had, eqb-true _ _ p.measured)
  fit_passed Bits at p = (leb-true _ _ (placed p).1, few (p3 d) p.measured)
  fit_passed Write at p =
      let e : length (body d) ≡ p3 d = body_length d (p3 d) p.long in
      rw e (leb-true _ _ (and_true _ _ (placed p).1).0, leb-true _ _ p.measured, apart at (p3 d) (and_true _ _ (placed p).1).1)
  fit_passed Protect at p = let e : length (body d) ≡ p3 d = body_length d (p3 d) p.long in rw e (leb-true _ _ (placed p).1, leb-true _ _ p.measured)
  fit_passed Present at p = (p.had, body_length d (p3 d) p.long ∙ eqb-true _ _ p.measured)
  fit_passed Change at p = ((and_true _ _ p.had).0, body_length d (p3 d) p.long ∙ eqb-true _ _ p.measured)
  fit_passed Other at p = tt

  pub fit_decided : {o : Result Order Status} → Decided f s d o → Fit f (body d) o
  fit_decided (refused status) = tt
  fit_decided (through i at p) = fit_passed i at p

  -- every order fits
  pub order_fits : Fit f (body d) (order f s d)
  order_fits = fit_decided (decided f s d)

  short_passed : p3 d < 256 → (i : Ins) (at : ℕ) → Short (ordered i at (p3 d) (byte d 5))
  short_passed h Select at = tt
  short_passed h Page at = tt
  short_passed h Read at = h
  short_passed h Counter at = tt
  short_passed h Bits at = tt
  short_passed h Write at = tt
  short_passed h Protect at = tt
  short_passed h Present at = tt
  short_passed h Change at = tt
  short_passed h Other at = tt

  short_decided : p3 d < 256 → {o : Result Order Status} → Decided f s d o → Short o
  short_decided h (refused status) = tt
  short_decided h (through i at p) = short_passed h i at

  -- and is short, P3 being a byte
  pub order_short : p3 d < 256 → Short (order f s d)
  order_short h = short_decided h (decided f s d)

-- the numbers of the pseudo-APDU, and what the range test answered, are those that the steps were given
pub order_at : (f : Facts) (s : Slot) (d : List ℕ) (p v : ℕ) (i : Ins) (ranged : Result ℕ Status) {r : Result Order Status} → 5 ≤ length d → byte d 0 ≡ 0xFF
    → p ≡ p3 d → v ≡ byte d 5 → meant f (ins_of (byte d 1)) ≡ i → ranged ≡ place_of f (ins_of (byte d 1)) (p1p2 d) (p3 d)
    → r ≡ steps f s (length d) p v i ranged → r ≡ order f s d
order_at f s d p v i ranged h e a b k t q =
    q ∙ ap₂ (λ (n m : ℕ). steps f s (length d) n m i ranged) a b
    ∙ ap₂ (λ (j : Ins) (x : Result ℕ Status). steps f s (length d) (p3 d) (byte d 5) j x) (sym k) t
    ∙ sym (order_on f s d h e)
