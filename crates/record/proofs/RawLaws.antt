-- Laws of raw records: bytes that are blank, a record that was found, and what is written.
use mathlib.Core.Path.{◌≡◌, refl, sym, ap, ◌∙◌}
use Prim.Native.Nat.{ℕ, ◌+◌, ◌-◌, ◌%◌, ◌≤◌, ◌<◌}
use mathlib.Core.Bool.{Bool, true, false, not, false≢true}
use mathlib.Core.List.{List, [], ◌∷◌, ◌++◌, append-nil}
use native.Mathlib.Omega.{arith}
use lib.ListN.{length, drop, set, replicate, length-drop, length-replicate, replicate-append-replicate, drop_of_length-le}
use lib.Dec.{ltb}
use lib.Seq.{sets, sets-eq}
use borrow.Author.Tests.{eq-eqb, ne_eqb, eqb-true, not-false, ltb-false}
use Rattle.std.specs.Prelude.{Option, Result, Ok, Err}
use Rattle.std.specs.Int.{w16, from_bool, to_le_bytes}
use Rattle.words.specs.Choice.{◌and◌, ◌is◌, ◌isnt◌}
use Rattle.words.specs.Bytes.{byte, blank, four_at, eight_at, low_first}
use Rattle.words.proofs.Choices.{either, and_fails, and_holds}
use Rattle.words.proofs.Lists.{sets_snoc, sum_zero, blank_four, zero_last}
use Rattle.slot.specs.declared.Slot.{Slot}
use Rattle.slot.specs.Slots.{removed}
use Rattle.record.specs.declared.Flaw.{Flaw}
use Rattle.record.specs.Raw.{kind_of, flag_of, state_of, raw_of, slot_from, slot_with}
use Rattle.chips.specs.declared.Chip.{Chip}

-- ---- blank bytes
-- the number in eight bytes is 0 where every byte is
blank_eight : (l : List ℕ) (k : ℕ) → k + 8 ≤ length l → blank (drop k l) ≡ (eight_at l k is 0 and blank (drop (k + 8) l))
unfolding eight_at
blank_eight l k h =
    let e : k + 4 + 4 ≡ k + 8 = omega arith in
    blank_four l k (omega arith)
    ∙ ap (λ (x : Bool). four_at l k is 0 and x) (blank_four l (k + 4) (omega arith) ∙ ap (λ (j : ℕ). four_at l (k + 4) is 0 and blank (drop j l)) e)
    ∙ sum_zero 4294967296 (four_at l k) (four_at l (k + 4)) (blank (drop (k + 8) l)) (omega arith)

-- a number of eight bytes that is 0 is passed, one that is not says that they are not blank
pub eight_zero : (l : List ℕ) (k : ℕ) → k + 8 ≤ length l → eight_at l k ≡ 0 → blank (drop (k + 8) l) ≡ blank (drop k l)
eight_zero l k h e = and_holds (eq-eqb (eight_at l k) 0 e) refl ∙ sym (blank_eight l k h)

pub eight_more : (l : List ℕ) (k : ℕ) → k + 8 ≤ length l → (eight_at l k ≡ 0 → ⊥) → false ≡ blank (drop k l)
eight_more l k h e = and_fails (blank (drop (k + 8) l)) (ne_eqb (eight_at l k) 0 e) ∙ sym (blank_eight l k h)

-- the last of eight bytes is 00h where their number is 0
pub eight_last : (l : List ℕ) → eight_at l 17 ≡ 0 → byte l 24 ≡ 0
unfolding eight_at four_at
eight_last l e = omega (arith, e)

-- the last eight of 32 bytes
pub blank_last : (l : List ℕ) → length l ≡ 32 → eight_at l 24 is 0 ≡ blank (drop 24 l)
blank_last l e = zero_last l 24 8 (eight_at l 24) (blank_eight l 24 (omega arith)) (omega arith)

-- ---- a record that was found
-- what a reading says
abbrev is_found : Result Slot Flaw → Bool
is_found (Ok s) = true
is_found (Err (Flaw.Broken h)) = false
is_found (Err Flaw.Unknown) = false

abbrev slot_in : Result Slot Flaw → Slot
slot_in (Ok s) = s
slot_in (Err (Flaw.Broken h)) = removed
slot_in (Err Flaw.Unknown) = removed

broken_found : {A : Type 0} {h : Option Chip} {s : Slot} → Err (Flaw.Broken h) ≡ Ok s → A
broken_found e = absurd (false≢true (ap is_found e))

pub unknown_found : {A : Type 0} {s : Slot} → (Err Flaw.Unknown) ≡ Ok s → A
unknown_found e = absurd (false≢true (ap is_found e))

-- a record is made as one, and s is the slot in it
pub record Made (h : Option Chip) (r : List ℕ) (s : Slot) : Type 0 where
  pub long : length r ≡ 32
  pub on : byte r 1 ≤ 1
  pub unlocked : byte r 4 ≤ 1
  pub named : byte r 16 ≤ 1
  pub rest : blank (drop 17 r) ≡ true
  pub said : slot_from h r ≡ s

pub found_with : (h : Option Chip) (r : List ℕ) (s : Slot) → slot_with h r ≡ Ok s → Made h r s
unfolding slot_with
found_with h r s =
    let P : Result Slot Flaw → Type 0 = λ x. x ≡ Ok s → Made h r s in
    either P (length r isnt 32) (λ _. broken_found) (λ a.
    either P (ltb 1 (byte r 1)) (λ _. broken_found) (λ b.
    either P (ltb 1 (byte r 4)) (λ _. broken_found) (λ c.
    either P (ltb 1 (byte r 16)) (λ _. broken_found) (λ n.
    either P (not (blank (drop 17 r))) (λ _. broken_found) (λ d e.
    record {
      long = eqb-true _ _ (not-false _ a);
      on = ltb-false 1 (byte r 1) b;
      unlocked = ltb-false 1 (byte r 4) c;
      named = ltb-false 1 (byte r 16) n;
      rest = not-false _ d;
      said = ap slot_in e;
    })))))

-- ---- what is written
-- the library's byte of a flag, and its two bytes of a number, are the rule's
pub flag_byte : (b : Bool) → from_bool b ≡ flag_of b
flag_byte true = refl
flag_byte false = refl

pub two_low : (n : ℕ) → n < 65536 → to_le_bytes w16 n ≡ low_first 1 n
unfolding low_first
two_low n h = ap (λ (x : ℕ). n % 256 ∷ x ∷ []) (omega arith)

-- kind, bytes 1 to 16 and the rest, stored one behind the other, are the record
pub record_written : (r : List ℕ) (s : Slot) (k : ℕ) → length r ≡ 32 → k ≡ kind_of s.holds → sets (sets (set r 0 k) 1 (state_of s)) 17 (replicate 15 0) ≡ raw_of s
unfolding raw_of low_first
record_written r s k e h =
    let w : ℕ → List ℕ = λ x. x ∷ state_of s ++ replicate 15 0 in
    sets-eq (w k) r 0 (omega arith)
    ∙ ap (λ (t : List ℕ). w k ++ t) (drop_of_length-le r {i = 32} (omega arith))
    ∙ append-nil (w k)
    ∙ ap w h

-- 15 bytes of rest make 32
pub rest_long : (r : List ℕ) → drop 17 r ≡ replicate 15 0 → length r ≡ 32
rest_long r e =
    let p : length (drop 17 r) ≡ 15 = ap length e in
    omega (arith, p, length-drop 17 r)

-- bytes 1 to 16 make it the record of a slot, where the kind is the slot's already and the rest 00h
pub state_written : (r : List ℕ) (s : Slot) → byte r 0 ≡ kind_of s.holds → drop 17 r ≡ replicate 15 0 → sets r 1 (state_of s) ≡ raw_of s
unfolding raw_of low_first
state_written [] s k e = absurd (omega (arith, rest_long [] e))
state_written (a ∷ r) s k e =
    sets-eq (state_of s) (a ∷ r) 1 (omega (arith, rest_long (a ∷ r) e))
    ∙ ap (λ (t : List ℕ). a ∷ state_of s ++ t) e
    ∙ ap (λ (x : ℕ). x ∷ state_of s ++ replicate 15 0) k

-- a loop that makes the rest 00h: one turn
pub rest_more : (r : List ℕ) (i : ℕ) → 17 ≤ i → set (sets r 17 (replicate (i - 17) 0)) i 0 ≡ sets r 17 (replicate (i + 1 - 17) 0)
rest_more r i h =
    let z : List ℕ = replicate (i - 17) 0 in
    let p : 17 + length z ≡ i = omega (arith, length-replicate {A = ℕ} (i - 17) 0) in
    let q : i - 17 + 1 ≡ i + 1 - 17 = omega arith in
    ap (λ (k : ℕ). set (sets r 17 z) k 0) (sym p)
    ∙ sym (sets_snoc r 17 z 0)
    ∙ ap (sets r 17) (replicate-append-replicate {A = ℕ} (i - 17) 1 0)
    ∙ ap (λ (n : ℕ). sets r 17 (replicate n 0)) q
