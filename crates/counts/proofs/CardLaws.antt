-- Laws of a card's counts: of a code card the tries of its counter, of an image of its length the protected bytes.
use mathlib.Core.Path.{◌≡◌}
use mathlib.Core.Bool.{true}
use mathlib.Core.List.{List}
use Prim.Native.Nat.{ℕ}
use lib.ListN.{length}
use borrow.Author.Tests.{eq-eqb}
use Rattle.std.specs.Prelude.{Some}
use Rattle.words.proofs.Choices.{first}
use Rattle.chips.specs.declared.Chip.{Chip}
use Rattle.chips.specs.Kinds.{facts}
use Rattle.counts.specs.Counts.{tries_in, count_in, tries_of, protected_of}

pub tries_card : (chip : Chip) (image : List ℕ) → (facts chip).coded ≡ true → tries_of (Some chip) image ≡ tries_in (facts chip) image
tries_card chip image e = first _ _ e

pub protected_card : (chip : Chip) (image : List ℕ) → length image ≡ (facts chip).size → protected_of (Some chip) image ≡ count_in (facts chip) image
protected_card chip image e = first _ _ (eq-eqb _ _ e)
