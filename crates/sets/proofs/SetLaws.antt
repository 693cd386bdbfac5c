-- Laws of parameter sets: the lengths that fit, a set's bytes, the default.
use Prim.Native.Nat.{ℕ, ◌+◌, ◌-◌, ◌%◌, ◌≤◌, ◌<◌, suc}
use mathlib.Core.Path.{◌≡◌, refl, sym, ap, ◌∙◌}
use mathlib.Core.Bool.{true, not}
use mathlib.Core.Logic.{◌⊎◌, inl, inr}
use mathlib.Core.List.{List, ◌∷◌}
use native.Mathlib.Nat.{mod-eq_of_lt}
use native.Mathlib.Omega.{arith}
use lib.ListN.{length, drop, get_or-eq_default}
use Rattle.std.specs.Prelude.{Option, None, is_none}
use Rattle.std.proofs.lemmas.Option.{none-some}
use borrow.Author.Tests.{eq-eqb, ne_eqb, eqb-true, not-false}
use Rattle.words.specs.Choice.{◌⇒◌⁏◌, ◌and◌, ◌or◌, ◌is◌}
use Rattle.words.specs.Bytes.{AllBytes, byte, number_in, byte_of, series}
use Rattle.words.proofs.Choices.{either, first, rest, and_true, and_fails, or_true, both}
use Rattle.words.proofs.Lists.{length_series, series_part, series_at, tail_is}
use Rattle.words.proofs.Numbers.{byte_number}
use Rattle.sets.specs.Sets.{set_with, default_set, protocol_of, ifsc, nad, length_of, bytes_of, fits_length, long_wait, fault_at, set_of, takes}

-- ---- a set's bytes
pub length_short : (t : ℕ) → length_of t ≤ 7
unfolding length_of
length_short t = either (λ (n : ℕ). n ≤ 7) _ (λ _. omega arith) (λ _. omega arith)

length_some : (t : ℕ) → 5 ≤ length_of t
unfolding length_of
length_some t = either (λ (n : ℕ). 5 ≤ n) _ (λ _. omega arith) (λ _. omega arith)

pub bytes_short : (t : ℕ) → length (bytes_of t) ≤ 7
bytes_short t = omega (arith, length_series (byte_of t) 1 (length_of t), length_short t)

-- ---- a message's set
-- byte k of it is byte k + 9 of the message; beyond the message's end there is nothing
behind : (m : List ℕ) (k : ℕ) → length m ≤ k → byte m k % 256 ≡ 0
behind m k h = ap (λ (x : ℕ). x % 256) (get_or-eq_default m 0 {n = k} h)

named_ifsc : (m : List ℕ) → length m ≤ 15 → ifsc (set_of m) ≡ 0
unfolding set_of set_with series
named_ifsc m h = byte_number (byte m 7 ∷ series (byte m) 10 7) 6 ∙ behind m 15 h

named_nad : (m : List ℕ) → length m ≤ 16 → nad (set_of m) ≡ 0
unfolding set_of set_with series
named_nad m h = byte_number (byte m 7 ∷ series (byte m) 10 7) 7 ∙ behind m 16 h

-- where its protocol number fits the length of the data, that is the length of the set
pub named_length : (m : List ℕ) → fits_length (protocol_of (set_of m)) (length m - 10) ≡ true → length_of (set_of m) ≡ length m - 10
unfolding fits_length length_of
named_length m e = go (or_true _ _ e)
  where
    go : (protocol_of (set_of m) is 0 and length m - 10 is 5 ≡ true) ⊎ (protocol_of (set_of m) is 1 and length m - 10 is 7 ≡ true) → length_of (set_of m) ≡ length m - 10
    go (inl h) =
        let u = and_true _ _ h in
        let n : length m - 10 ≡ 5 = eqb-true _ _ u.1 in
        first _ _ (both u.0 (both (eq-eqb _ 0 (named_ifsc m (omega arith))) (eq-eqb _ 0 (named_nad m (omega arith))))) ∙ sym n
    go (inr h) =
        let u = and_true _ _ h in
        let p : protocol_of (set_of m) ≡ 1 = eqb-true _ _ u.0 in
        rest _ _ (sym (and_fails _ (ne_eqb (protocol_of (set_of m)) 0 (λ z. omega (arith, p, z))))) ∙ sym (eqb-true _ _ u.1)

-- so 61h would take what it took
record Fits (t n : ℕ) (at : Option ℕ) : Type 0 where
  fits : at ≡ None → fits_length (protocol_of t) n ≡ true

fault_fits : (t n : ℕ) → Fits t n (fault_at t n)
unfolding fault_at
fault_fits t n =
    either (Fits t n) (not (fits_length (protocol_of t) n)) (λ _. record { fits = λ e. absurd (none-some _ (sym e)) }) (λ h. record { fits = λ _. not-false _ h })

pub named_taken : (m : List ℕ) → fault_at (set_of m) (length m - 10) ≡ None → takes (set_of m) ≡ true
unfolding takes
named_taken m e =
    ap is_none (ap (fault_at (set_of m)) (named_length m ((fault_fits (set_of m) (length m - 10)).fits e)) ∙ e)

-- a message of bytes names its protocol number and its bytes, all of them
pub named_protocol : (m : List ℕ) → AllBytes m → protocol_of (set_of m) ≡ byte m 7
unfolding set_of set_with series
named_protocol m b = byte_number (byte m 7 ∷ series (byte m) 10 7) 0 ∙ mod-eq_of_lt (b.fits 7)

named_byte : (m : List ℕ) → AllBytes m → (j : ℕ) → j < 7 → byte_of (set_of m) (1 + j) ≡ byte m (10 + j)
unfolding set_of set_with
named_byte m b j h =
    let e : 1 + j ≡ suc j = omega arith in
    ap (byte_of (set_of m)) e
    ∙ byte_number (byte m 7 ∷ series (byte m) 10 7) (suc j)
    ∙ ap (λ (x : ℕ). x % 256) (series_at (byte m) 10 7 j h)
    ∙ mod-eq_of_lt (b.fits (10 + j))

pub named_bytes : (m : List ℕ) → AllBytes m → fault_at (set_of m) (length m - 10) ≡ None → bytes_of (set_of m) ≡ drop 10 m
named_bytes m b e =
    let n : length_of (set_of m) ≡ length m - 10 = named_length m ((fault_fits (set_of m) (length m - 10)).fits e) in
    ap (series (byte_of (set_of m)) 1) n
    ∙ series_part (byte_of (set_of m)) 1 10 (length m - 10) m (omega (arith, n, length_some (set_of m))) (λ j h. named_byte m b j (omega (arith, n, length_short (set_of m))))
    ∙ tail_is 10 m

-- ---- the default
pub default_taken : takes default_set ≡ true
unfolding takes fault_at length_of fits_length long_wait default_set set_with number_in byte_of ◌⇒◌⁏◌ ◌and◌ ◌or◌
default_taken = refl
