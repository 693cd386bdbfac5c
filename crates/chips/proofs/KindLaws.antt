-- Laws of the table: each is a test that is computed over the rows, and a fact for each chip.
use mathlib.Core.Path.{◌≡◌, refl, ap}
use mathlib.Core.Bool.{Bool, true, false, not}
use mathlib.Core.Logic.{◌⊎◌, inl, inr}
use Prim.Native.Nat.{ℕ, ◌+◌, ◌/◌, ◌%◌, ◌≤◌, ◌<◌}
use lib.Dec.{leb, ltb}
use borrow.Author.Tests.{eqb-true, eq-eqb, leb-true, ltb-true, lt-ltb}
use Rattle.words.specs.Choice.{◌and◌, ◌or◌, ◌means◌, ◌is◌}
use Rattle.words.specs.Bounds.{largest}
use Rattle.words.proofs.Choices.{or_true, means_true}
use Rattle.chips.specs.Kinds.{facts}
use Rattle.chips.specs.declared.Chip.{Chip}
use Rattle.chips.specs.declared.Facts.{Facts}
use Rattle.chips.proofs.Each.{all_of, each, each_of}

-- ---- what holds of every kind
pub record Laid (f : Facts) : Type 0 where
  pub numbered : 0 < f.kind
  pub modest : f.size ≤ largest
  pub front : f.memory ≤ f.size
  pub four : 4 ≤ f.size
  pub paged : f.page ≤ f.size
  pub codes : f.code + f.digits ≤ f.size
  pub digits : f.digits ≤ 3
  pub guards : f.bits + (f.covered + 7) / 8 ≤ f.size
  pub kept : f.covered ≤ f.memory
  pub behind : f.memory ≤ f.bits
  pub reached : f.reach ≤ f.covered
  pub words : f.covered % 32 ≡ 0
  pub few : f.covered ≤ 1024
  pub small : f.full < 256
  pub ends : f.zeros ≤ f.size

pub laid : (chip : Chip) → Laid (facts chip)
unfolding all_of ◌and◌
laid chip = record {
  numbered = ltb-true _ _ (each (λ (f : Facts). ltb 0 f.kind) refl chip);
  modest = leb-true _ _ (each (λ (f : Facts). leb f.size largest) refl chip);
  front = leb-true _ _ (each (λ (f : Facts). leb f.memory f.size) refl chip);
  four = leb-true _ _ (each (λ (f : Facts). leb 4 f.size) refl chip);
  paged = leb-true _ _ (each (λ (f : Facts). leb f.page f.size) refl chip);
  codes = leb-true _ _ (each (λ (f : Facts). leb (f.code + f.digits) f.size) refl chip);
  digits = leb-true _ _ (each (λ (f : Facts). leb f.digits 3) refl chip);
  guards = leb-true _ _ (each (λ (f : Facts). leb (f.bits + (f.covered + 7) / 8) f.size) refl chip);
  kept = leb-true _ _ (each (λ (f : Facts). leb f.covered f.memory) refl chip);
  behind = leb-true _ _ (each (λ (f : Facts). leb f.memory f.bits) refl chip);
  reached = leb-true _ _ (each (λ (f : Facts). leb f.reach f.covered) refl chip);
  words = eqb-true _ _ (each (λ (f : Facts). f.covered % 32 is 0) refl chip);
  few = leb-true _ _ (each (λ (f : Facts). leb f.covered 1024) refl chip);
  small = ltb-true _ _ (each (λ (f : Facts). ltb f.full 256) refl chip);
  ends = leb-true _ _ (each (λ (f : Facts). leb f.zeros f.size) refl chip);
}

-- ---- n bytes from k on stand before the protection bytes, or behind those of the first m bytes
abbrev pub Clear : ℕ → ℕ → ℕ → Facts → Type 0
Clear k n m f = (k + n ≤ f.bits) ⊎ (f.bits + (m + 7) / 8 ≤ k)

is_apart : ℕ → ℕ → ℕ → Facts → Bool
is_apart k n m f = leb (k + n) f.bits or leb (f.bits + (m + 7) / 8) k

clear_told : (k n m : ℕ) (f : Facts) → is_apart k n m f ≡ true → Clear k n m f
unfolding is_apart
clear_told k n m f e = go (or_true _ _ e)
  where
    go : (leb (k + n) f.bits ≡ true) ⊎ (leb (f.bits + (m + 7) / 8) k ≡ true) → Clear k n m f
    go (inl h) = inl (leb-true _ _ h)
    go (inr h) = inr (leb-true _ _ h)

-- ---- a code card: the code stands behind the counter, D1 does not reach the counter's byte or its bit, and no byte has to be 00h
pub record Coded (f : Facts) : Type 0 where
  pub coded : f.coded ≡ true
  pub inside : f.counter < f.size
  pub behind : f.counter < f.code
  pub apart : Clear f.counter 1 f.reach f
  pub opens : 0 < f.full
  pub long : 2 ≤ f.digits
  pub pageless : f.page ≡ 0
  pub filled : f.size ≤ f.zeros

abbrev has_code : Facts → Bool
has_code f = f.coded

pub coded : (chip : Chip) → (facts chip).coded ≡ true → Coded (facts chip)
unfolding all_of ◌and◌ ◌or◌ ◌means◌ is_apart
coded chip c = record {
  coded = c;
  inside = ltb-true _ _ (each_of has_code (λ (f : Facts). ltb f.counter f.size) refl chip c);
  behind = ltb-true _ _ (each_of has_code (λ (f : Facts). ltb f.counter f.code) refl chip c);
  apart = clear_told _ 1 _ (facts chip) (each_of has_code (λ (f : Facts). is_apart f.counter 1 f.reach f) refl chip c);
  opens = ltb-true _ _ (each_of has_code (λ (f : Facts). ltb 0 f.full) refl chip c);
  long = leb-true _ _ (each_of has_code (λ (f : Facts). leb 2 f.digits) refl chip c);
  pageless = eqb-true _ _ (each_of has_code (λ (f : Facts). f.page is 0) refl chip c);
  filled = leb-true _ _ (each_of has_code (λ (f : Facts). leb f.size f.zeros) refl chip c);
}

-- ---- a card without a code: no code bytes, and a counter would stand past the image's end, and beyond every bit
pub record Codeless (f : Facts) : Type 0 where
  pub bare : f.digits ≡ 0
  pub past : f.size ≤ f.counter
  pub beyond : f.covered ≤ f.counter

abbrev no_code : Facts → Bool
no_code f = not f.coded

pub codeless : (chip : Chip) → (facts chip).coded ≡ false → Codeless (facts chip)
unfolding all_of ◌and◌ ◌means◌
codeless chip c = record {
  bare = eqb-true _ _ (each_of no_code (λ (f : Facts). f.digits is 0) refl chip (ap not c));
  past = leb-true _ _ (each_of no_code (λ (f : Facts). leb f.size f.counter) refl chip (ap not c));
  beyond = leb-true _ _ (each_of no_code (λ (f : Facts). leb f.covered f.counter) refl chip (ap not c));
}

-- ---- a card with pages: its image is whole chip pages
pub whole_pages : (chip : Chip) → 0 < (facts chip).page → (facts chip).size % (facts chip).page ≡ 0
unfolding all_of ◌and◌ ◌means◌
whole_pages chip h = eqb-true _ _ (each_of (λ (f : Facts). ltb 0 f.page) (λ (f : Facts). f.size % f.page is 0) refl chip (lt-ltb _ _ h))

-- ---- where the counter has a bit, the bit stands behind memory and code, and D1 does not reach it
pub record Guarded (f : Facts) : Type 0 where
  pub behind : f.memory ≤ f.bits
  pub beyond : f.code + f.digits ≤ f.bits
  pub before : f.counter < f.bits
  pub short : f.reach ≤ f.counter

abbrev has_bit : Facts → Bool
has_bit f = ltb f.counter f.covered

pub guarded : (chip : Chip) → (facts chip).counter < (facts chip).covered → Guarded (facts chip)
unfolding all_of ◌and◌ ◌means◌
guarded chip c = record {
  behind = (laid chip).behind;
  beyond = leb-true _ _ (each_of has_bit (λ (f : Facts). leb (f.code + f.digits) f.bits) refl chip (lt-ltb _ _ c));
  before = ltb-true _ _ (each_of has_bit (λ (f : Facts). ltb f.counter f.bits) refl chip (lt-ltb _ _ c));
  short = leb-true _ _ (each_of has_bit (λ (f : Facts). leb f.reach f.counter) refl chip (lt-ltb _ _ c));
}

-- ---- a card with protection bits: it has no pages, and memory, counter and code stand apart from the protection bytes; where D2 stores the
-- code it is behind every byte that has a bit
pub record Bitted (f : Facts) : Type 0 where
  pub pageless : f.page ≡ 0
  pub behind : f.memory ≤ f.bits
  pub counter : Clear f.counter 1 f.covered f
  pub code : Clear f.code f.digits f.covered f
  pub past : f.coded and f.selects is 0x06 ≡ true → f.covered ≤ f.code

abbrev has_bits : Facts → Bool
has_bits f = ltb 0 f.covered

pub bitted : (chip : Chip) → 0 < (facts chip).covered → Bitted (facts chip)
unfolding all_of ◌and◌ ◌or◌ ◌means◌ is_apart
bitted chip c = record {
  pageless = eqb-true _ _ (each_of has_bits (λ (f : Facts). f.page is 0) refl chip (lt-ltb _ _ c));
  behind = (laid chip).behind;
  counter = clear_told _ 1 _ (facts chip) (each_of has_bits (λ (f : Facts). is_apart f.counter 1 f.covered f) refl chip (lt-ltb _ _ c));
  code = clear_told _ _ _ (facts chip) (each_of has_bits (λ (f : Facts). is_apart f.code f.digits f.covered f) refl chip (lt-ltb _ _ c));
  past = λ h. leb-true _ _ (means_true _ _ (each_of has_bits (λ (f : Facts). f.coded and f.selects is 0x06 means leb f.covered f.code) refl chip (lt-ltb _ _ c)) h);
}

-- a card with pages has no protection bits, and one without pages has
pub pages_bare : (chip : Chip) → 0 < (facts chip).page → (facts chip).covered ≡ 0
unfolding all_of ◌and◌ ◌means◌
pages_bare chip h = eqb-true _ _ (each_of (λ (f : Facts). ltb 0 f.page) (λ (f : Facts). f.covered is 0) refl chip (lt-ltb _ _ h))

pub pageless_bits : (chip : Chip) → (facts chip).page ≡ 0 → 0 < (facts chip).covered
unfolding all_of ◌and◌ ◌means◌
pageless_bits chip e = ltb-true _ _ (each_of (λ (f : Facts). f.page is 0) has_bits refl chip (eq-eqb _ 0 e))

-- ---- bytes that have to be 00h are the last four, behind memory and protection bytes, on a card without pages; a code card has none (`Coded.filled`)
pub record Zeroed (f : Facts) : Type 0 where
  pub four : f.zeros + 4 ≡ f.size
  pub pageless : f.page ≡ 0
  pub behind : f.memory ≤ f.zeros
  pub beyond : f.bits + (f.reach + 7) / 8 ≤ f.zeros

abbrev has_zeros : Facts → Bool
has_zeros f = ltb f.zeros f.size

pub zeroed : (chip : Chip) → (facts chip).zeros < (facts chip).size → Zeroed (facts chip)
unfolding all_of ◌and◌ ◌means◌
zeroed chip c = record {
  four = eqb-true _ _ (each_of has_zeros (λ (f : Facts). f.zeros + 4 is f.size) refl chip (lt-ltb _ _ c));
  pageless = eqb-true _ _ (each_of has_zeros (λ (f : Facts). f.page is 0) refl chip (lt-ltb _ _ c));
  behind = leb-true _ _ (each_of has_zeros (λ (f : Facts). leb f.memory f.zeros) refl chip (lt-ltb _ _ c));
  beyond = leb-true _ _ (each_of has_zeros (λ (f : Facts). leb (f.bits + (f.reach + 7) / 8) f.zeros) refl chip (lt-ltb _ _ c));
}
