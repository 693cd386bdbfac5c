-- A test that the prover computes over the rows of the table is a fact for each chip: a new kind is a line of `known_kind`, and no law
-- that goes by kinds moves.
use mathlib.Core.Path.{◌≡◌, refl, sym, ◌∙◌}
use mathlib.Core.Bool.{Bool, true}
use mathlib.Core.List.{List, [], ◌∷◌}
use Prim.Native.Nat.{ℕ}
use borrow.Author.Tests.{eqb-true}
use Rattle.std.specs.Prelude.{Option, Some}
use Rattle.words.specs.Choice.{◌⇒◌⁏◌, ◌and◌, ◌means◌, ◌is◌}
use Rattle.words.proofs.Choices.{either, and_true, means_true}
use Rattle.chips.specs.Kinds.{facts, chips, chip_among, chip_of}
use Rattle.chips.specs.declared.Chip.{Chip}
use Rattle.chips.specs.declared.Facts.{Facts}

-- a kind's own number gives its chip
pub known_kind : (chip : Chip) → chip_of (facts chip).kind ≡ Some chip
unfolding chip_of chip_among ◌⇒◌⁏◌
known_kind Chip.I2c1 = refl
known_kind Chip.I2c2 = refl
known_kind Chip.I2c4 = refl
known_kind Chip.I2c8 = refl
known_kind Chip.I2c16 = refl
known_kind Chip.I2c32 = refl
known_kind Chip.I2c64 = refl
known_kind Chip.I2c128 = refl
known_kind Chip.I2c256 = refl
known_kind Chip.I2c512 = refl
known_kind Chip.I2c1024 = refl
known_kind Chip.Sle4428 = refl
known_kind Chip.Sle4418 = refl
known_kind Chip.Sle4442 = refl
known_kind Chip.Sle4432 = refl

-- a chip that is found has the number it was found by, and every test that holds of all of the list
unfoldable pub all_of : (Chip → Bool) → List Chip → Bool
all_of test [] = true
all_of test (chip ∷ rest) = test chip and all_of test rest

record Found (k : ℕ) (test : Chip → Bool) (rest : List Chip) (found : Option Chip) : Type 0 where
  number : (chip : Chip) → found ≡ Some chip → (facts chip).kind ≡ k
  tested : (chip : Chip) → found ≡ Some chip → all_of test rest ≡ true → test chip ≡ true

found_among : (k : ℕ) (test : Chip → Bool) (rest : List Chip) → Found k test rest (chip_among k rest)
unfolding chip_among all_of
found_among k test [] = record { number = λ chip e. cc; tested = λ chip e h. cc }
found_among k test (first ∷ rest) =
    let later = found_among k test rest in
    either (Found k test (first ∷ rest)) (k is (facts first).kind)
    (λ t. record {
      number = λ chip e. let same : first ≡ chip = cc in (let q : (facts first).kind ≡ (facts chip).kind = cc in sym q ∙ sym (eqb-true k _ t));
      tested = λ chip e h. let same : first ≡ chip = cc in (let q : test first ≡ true = (and_true _ _ h).0 in cc);
    })
    (λ _. record { number = later.number; tested = λ chip e h. later.tested chip e (and_true _ _ h).1 })

pub kind_of_found : (k : ℕ) (chip : Chip) → chip_of k ≡ Some chip → (facts chip).kind ≡ k
unfolding chip_of
kind_of_found k chip e = (found_among k (λ (c : Chip). true) chips).number chip e

-- a test of a row's numbers that holds of every row holds of each chip's
pub each : (test : Facts → Bool) → all_of (λ (chip : Chip). test (facts chip)) chips ≡ true → (chip : Chip) → test (facts chip) ≡ true
unfolding chip_of
each test e chip = (found_among (facts chip).kind (λ (c : Chip). test (facts c)) chips).tested chip (known_kind chip) e

-- and one that holds of the rows that another holds of
pub each_of : (given test : Facts → Bool) → all_of (λ (chip : Chip). given (facts chip) means test (facts chip)) chips ≡ true
    → (chip : Chip) → given (facts chip) ≡ true → test (facts chip) ≡ true
each_of given test e chip g = means_true _ _ (each (λ (f : Facts). given f means test f) e chip) g
