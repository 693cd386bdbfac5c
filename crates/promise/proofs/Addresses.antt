-- Every byte of an I2C card has its address: B0 and D0 name those below 10000h, B1 and D1 those from there on.
use Rattle.std.specs.Prelude.{Ok}
use Prim.Native.Nat.{ℕ, ◌+◌, ◌-◌, ◌≤◌, ◌<◌}
use mathlib.Core.Path.{◌≡◌, refl, ap, ap₂, ◌∙◌}
use mathlib.Core.Bool.{Bool, true, false}
use native.Mathlib.Omega.{arith}
use native.Mathlib.Nat.{zero-add}
use borrow.Author.Tests.{le-leb, lt-ltb}
use Rattle.words.specs.Bounds.{addresses}
use Rattle.words.proofs.Choices.{first, both, or_left}
use Rattle.chips.specs.declared.Chip.{Chip}
use Rattle.chips.specs.declared.Facts.{Facts}
use Rattle.chips.specs.Kinds.{facts}
use Rattle.chips.proofs.KindLaws.{laid, coded, codeless}
use Rattle.steps.specs.declared.Ins.{Ins}
use Rattle.steps.specs.declared.Ins.TheVariants.{Read, Counter, Write, Protect}
use Rattle.steps.specs.Steps.{seventeen, meant, top, place_fits, range_test, place_of}

module _ (chip : Chip) (some : 0 < (facts chip).page) (a n : ℕ) (room : a + n ≤ (facts chip).memory) where
  abbrev f : Facts
  f = facts chip

  -- a counter would stand past the memory
  past : f.memory ≤ f.counter
  past = go f.coded refl
    where
      go : (b : Bool) → f.coded ≡ b → f.memory ≤ f.counter
      go true e = absurd (omega (arith, (coded chip e).pageless))
      go false e = omega (arith, (codeless chip e).past, (laid chip).front)

  read_fits : place_fits f Read a n ≡ true
  read_fits = le-leb (a + n) f.memory room

  write_fits : place_fits f Write a n ≡ true
  write_fits = both read_fits (or_left _ (le-leb (a + n) f.counter (omega (arith, past))))

  at : (i : Ins) → place_fits f i a n ≡ true → range_test f i a n ≡ Ok a
  unfolding range_test
  at i e = first _ _ e

  -- P1P2 names it by itself
  pub address_below : (place_of f Read a n ≡ Ok a) × (place_of f Write a n ≡ Ok a)
  address_below =
      let e : 0 + a ≡ a = zero-add a in
      (ap (λ (k : ℕ). range_test f Read k n) e ∙ at Read read_fits, ap (λ (k : ℕ). range_test f Write k n) e ∙ at Write write_fits)

  -- and with the top bit 1
  pub address_above : 0 < n → addresses ≤ a → (place_of f Counter (a - addresses) n ≡ Ok a) × (place_of f Protect (a - addresses) n ≡ Ok a)
  address_above h k =
      let yes : seventeen f ≡ true = lt-ltb addresses f.memory (omega arith) in
      let e : addresses + (a - addresses) ≡ a = omega arith in
      (above Counter Read (first _ _ yes) (first _ _ yes) e (at Read read_fits), above Protect Write (first _ _ yes) (first _ _ yes) e (at Write write_fits))
    where
      above : (i j : Ins) → meant f i ≡ j → top f i ≡ addresses → addresses + (a - addresses) ≡ a → range_test f j a n ≡ Ok a
          → place_of f i (a - addresses) n ≡ Ok a
      above i j e t s r = ap₂ (λ (x : Ins) (y : ℕ). range_test f x y n) e (ap (λ (y : ℕ). y + (a - addresses)) t ∙ s) ∙ r
