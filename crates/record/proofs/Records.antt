-- Theorems about raw records: what is written reads back as the same slot, and what was read is what would be written.
use mathlib.Core.Path.{◌≡◌, refl, sym, ap, ap₂, ◌∙◌, subst}
use Prim.Native.Nat.{ℕ, zero, suc, ◌+◌, ◌*◌, ◌/◌, ◌%◌, ◌≤◌, ◌<◌}
use mathlib.Core.Bool.{Bool, true, false}
use mathlib.Core.List.{List, [], ◌∷◌, ◌++◌, append_assoc}
use native.Mathlib.Omega.{arith}
use lib.ListN.{length, take, drop, replicate, length-drop, take-append-drop}
use lib.Seq.{drop-cons}
use lib.Dec.{ltb}
use borrow.Author.Tests.{eqb-true, eq-eqb, ne_eqb}
use Rattle.std.specs.Prelude.{Option, Result, Some, None, Ok}
use Rattle.words.specs.Choice.{◌and◌, ◌is◌}
use Rattle.words.specs.Bytes.{AllBytes, byte, blank, four_at, eight_at, low_first, series}
use Rattle.words.proofs.Numbers.{eight_back, series_bytes, eight_number, low_number}
use Rattle.words.proofs.Lists.{length_series, series_part}
use Rattle.words.proofs.Choices.{first, rest, passed, either, and_true}
use Rattle.chips.specs.Kinds.{chip_of}
use Rattle.chips.proofs.Each.{known_kind, kind_of_found}
use Rattle.chips.proofs.KindLaws.{laid}
use Rattle.slot.specs.declared.Slot.{Slot}
use Rattle.slot.specs.Slots.{slotted}
use Rattle.record.specs.declared.Flaw.{Flaw}
use Rattle.record.specs.Raw.{kind_of, flag_of, raw_of, slot_from, slot_with, card_with, slot_of}
use Rattle.record.proofs.RawLaws.{Made, found_with, unknown_found}
use Rattle.chips.specs.declared.Chip.{Chip}

-- ---- what is written reads back as the same slot
-- the bytes behind the parameters
counts : ℕ → ℕ → Bool → List ℕ
unfolding low_first
counts left n c = left ∷ low_first 1 n ++ (flag_of c ∷ replicate 15 0)

two_back : (n : ℕ) → n % 256 + 256 * (n / 256) ≡ n
two_back n = omega arith

-- a flag is 0 or 1, and reads back as itself
flag_small : (b : Bool) → ltb 1 (flag_of b) ≡ false
flag_small true = refl
flag_small false = refl

pub flag_back : (b : Bool) → flag_of b is 1 ≡ b
flag_back true = refl
flag_back false = refl

-- a kind byte tells what is held
kind_back : (h : Option Chip) (r : List ℕ) → byte r 0 ≡ kind_of h → slot_of r ≡ slot_with h r
unfolding slot_of card_with
kind_back None r e = first _ _ (eq-eqb (byte r 0) 0 e)
kind_back (Some chip) r e =
    rest _ _ (ne_eqb (byte r 0) 0 (λ z. omega (arith, (laid chip).numbered, e, z))) ∙ ap (λ (k : Option Chip). card_with k r) (ap chip_of e ∙ known_kind chip)

module _ (s : Slot) where
  fields_back : slot_from s.holds (raw_of s) ≡ s
  unfolding raw_of low_first counts eight_at four_at
  fields_back =
      let f : Bool → Bool → ℕ → ℕ → Bool → Slot = λ on op set n c. slotted s.holds on s.selected s.page op set s.tries n c in
      let on = flag_back s.active in
      let op = flag_back s.«open» in
      let set = eight_back s.set (counts s.tries s.protected s.chosen) in
      let n = two_back s.protected in
      let c = flag_back s.chosen in
      let c₀ : Bool = flag_of s.chosen is 1 in
      ap₂ (λ (x y : Bool). f x y (eight_at (raw_of s) 5) (byte (raw_of s) 14 + 256 * byte (raw_of s) 15) c₀) on op
      ∙ ap₂ (λ (x y : ℕ). f s.active s.«open» x y c₀) set n
      ∙ ap (f s.active s.«open» s.set s.protected) c

  with_back : slot_with s.holds (raw_of s) ≡ Ok s
  unfolding slot_with raw_of blank low_first ◌and◌
  with_back =
      sym
      (passed _ refl
      (passed _ (flag_small s.active) (passed _ (flag_small s.«open») (passed _ (flag_small s.chosen) (passed _ refl (sym (ap Ok fields_back)))))))

  pub reads_back_lem : slot_of (raw_of s) ≡ Ok s
  unfolding raw_of
  reads_back_lem = kind_back s.holds (raw_of s) refl ∙ with_back

-- ---- what was read is what would be written
-- a byte that is 0 or 1 is the flag it is read as
flag_told : (b : ℕ) → b ≤ 1 → flag_of (b is 1) ≡ b
flag_told zero h = refl
flag_told (suc zero) h = refl
flag_told (suc (suc b)) h = absurd (omega arith)

blank_told : (l : List ℕ) (n : ℕ) → length l ≡ n → blank l ≡ true → l ≡ replicate n 0
unfolding blank
blank_told [] zero e h = refl
blank_told [] (suc n) e h = absurd (omega arith)
blank_told (x ∷ l) zero e h = absurd (omega arith)
blank_told (x ∷ l) (suc n) e h =
    let p : x ≡ 0 = eqb-true x 0 (and_true _ _ h).0 in
    let q : l ≡ replicate n 0 = blank_told l n (omega arith) (and_true _ _ h).1 in
    cc

-- a record that was found: its kind byte is the slot's, and the rest is 00h
pub record Front (r : List ℕ) (s : Slot) : Type 0 where
  pub kind : byte r 0 ≡ kind_of s.holds
  pub made : Made s.holds r s

pub front_rest : {r : List ℕ} {s : Slot} → Front r s → drop 17 r ≡ replicate 15 0
front_rest {r} f = blank_told (drop 17 r) 15 (omega (arith, length-drop 17 r, f.made.long)) f.made.rest

made_front : (h : Option Chip) (r : List ℕ) (s : Slot) → kind_of h ≡ byte r 0 → Made h r s → Front r s
made_front h r s k l =
    let e : h ≡ s.holds = ap (λ (t : Slot). t.holds) l.said in
    record { kind = sym k ∙ ap kind_of e; made = subst (λ (x : Option Chip). Made x r s) e l }

card_front : (k : Option Chip) (r : List ℕ) (s : Slot) → chip_of (byte r 0) ≡ k → card_with k r ≡ Ok s → Front r s
unfolding card_with
card_front (Some chip) r s k e = made_front (Some chip) r s (kind_of_found (byte r 0) chip k) (found_with (Some chip) r s e)
card_front None r s k e = unknown_found e

pub found_front : (r : List ℕ) (s : Slot) → slot_of r ≡ Ok s → Front r s
unfolding slot_of
found_front r s =
    either (λ (x : Result Slot Flaw). x ≡ Ok s → Front r s) (byte r 0 is 0)
    (λ z e. made_front None r s (sym (eqb-true (byte r 0) 0 z)) (found_with None r s e))
    (λ _ e. card_front (chip_of (byte r 0)) r s refl e)

-- so its bytes are those of the slot, all of them
set_told : (r : List ℕ) → AllBytes r → series (byte r) 5 8 ≡ low_first 7 (eight_at r 5)
set_told r b =
    sym (ap (low_first 7) (eight_number r 5 b) ∙ low_number 7 (series (byte r) 5 8) (length_series (byte r) 5 8) (series_bytes (byte r) b.fits 5 8))

-- two bytes of a number are those that it was read from
two_told : (x y : ℕ) → x < 256 → x ∷ y ∷ [] ≡ low_first 1 (x + 256 * y)
unfolding low_first
two_told x y h = ap₂ (λ (i j : ℕ). i ∷ j ∷ []) (omega arith) (omega arith)

-- the counts, the flag of the page, and the rest behind them
counts_told : (l : List ℕ) (b : AllBytes l) → length l ≡ 32 → byte l 16 ≤ 1 → drop 17 l ≡ replicate 15 0
    → drop 13 l ≡ (byte l 13 ∷ low_first 1 (byte l 14 + 256 * byte l 15) ++ (flag_of (byte l 16 is 1) ∷ [])) ++ replicate 15 0
counts_told l b e n z =
    let last : List ℕ = flag_of (byte l 16 is 1) ∷ [] in
    drop-cons l 13 0 (omega arith)
    ∙ ap (λ (t : List ℕ). byte l 13 ∷ t)
    (drop-cons l 14 0 (omega arith)
    ∙ ap (λ (t : List ℕ). byte l 14 ∷ t)
    (drop-cons l 15 0 (omega arith)
    ∙ ap (λ (t : List ℕ). byte l 15 ∷ t) (drop-cons l 16 0 (omega arith) ∙ ap₂ (λ (k : ℕ) (t : List ℕ). k ∷ t) (sym (flag_told (byte l 16) n)) z))
    ∙ ap (λ (t : List ℕ). (t ++ last) ++ replicate 15 0) (two_told (byte l 14) (byte l 15) (b.fits 14)))

front_raw : (r : List ℕ) (s : Slot) → AllBytes r → Front r s → r ≡ raw_of s
unfolding raw_of
front_raw [] s b f = absurd (omega (arith, f.made.long))
front_raw (x ∷ []) s b f = absurd (omega (arith, f.made.long))
front_raw (x ∷ y ∷ []) s b f = absurd (omega (arith, f.made.long))
front_raw (x ∷ y ∷ z ∷ []) s b f = absurd (omega (arith, f.made.long))
front_raw (x ∷ y ∷ z ∷ u ∷ []) s b f = absurd (omega (arith, f.made.long))
front_raw (x ∷ y ∷ z ∷ u ∷ v ∷ l) s b f =
    let r : List ℕ = x ∷ y ∷ z ∷ u ∷ v ∷ l in
    let w : ℕ → ℕ → ℕ → List ℕ → List ℕ = λ i j k t. i ∷ j ∷ z ∷ u ∷ k ∷ t in
    let set : take 8 l ≡ low_first 7 (eight_at r 5) = sym (series_part (byte r) 5 5 8 r (omega (arith, f.made.long)) (λ j _. refl)) ∙ set_told r b in
    let counts : List ℕ = byte r 13 ∷ low_first 1 (byte r 14 + 256 * byte r 15) ++ (flag_of (byte r 16 is 1) ∷ []) in
    let state : List ℕ = (low_first 7 (eight_at r 5) ++ counts) ++ replicate 15 0 in
    let tail : l ≡ state =
    sym (take-append-drop 8 l) ∙ ap₂ ◌++◌ set (counts_told r b f.made.long f.made.named (front_rest f)) ∙ sym (append_assoc (low_first 7 (eight_at r 5)) counts (replicate 15 0)) in
    ap (w x y v) tail
    ∙ ap (λ (i : ℕ). w i y v state) f.kind
    ∙ ap (λ (j : ℕ). w (kind_of s.holds) j v state) (sym (flag_told y f.made.on))
    ∙ ap (λ (k : ℕ). w (kind_of s.holds) (flag_of (y is 1)) k state) (sym (flag_told v f.made.unlocked))
    ∙ ap raw_of f.made.said

pub found_raw : (r : List ℕ) (s : Slot) → AllBytes r → slot_of r ≡ Ok s → r ≡ raw_of s
found_raw r s b e = front_raw r s b (found_front r s e)
