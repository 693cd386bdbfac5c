-- Laws of zero bits, four and eight bytes at a time: those of a number in bytes are those of its bytes.
use mathlib.Core.Path.{◌≡◌, refl, sym, ap, ◌∙◌}
use mathlib.Core.List.{List, ◌++◌}
use Prim.Native.Nat.{ℕ, ◌+◌, ◌*◌, ◌≤◌, ◌<◌}
use native.Mathlib.Omega.{arith}
use lib.Count.{ones, ones_cat, ones-le}
use lib.ListN.{length, drop, length-drop, length-append, get_or-append}
use lib.Seq.{drop-drop, drop-append_seam, get_or-drop}
use Rattle.words.specs.Bytes.{byte, four_at, eight_at}
use Rattle.words.proofs.Lists.{four_fits}
use Rattle.bits.specs.Bits.{zeros_of}
use Rattle.bits.proofs.CountLaws.{zeros_ones, zeros_step}

-- eight bytes were taken from the front of what is behind m bytes
pub record Taken (l : List ℕ) (m : ℕ) (front rest : List ℕ) : Type 0 where
  pub few : ones (eight_at front 0) ≤ 64
  pub long : m + 8 + length rest ≡ length l
  pub behind : rest ≡ drop (m + 8) l
  pub zeros : zeros_of (drop m l) + ones (eight_at front 0) ≡ 64 + zeros_of rest

module _ (l : List ℕ) (b : (k : ℕ) → byte l k < 256) where
  -- one byte, and the rest
  pub zeros_one : (i : ℕ) → i < length l → zeros_of (drop i l) + ones (byte l i) ≡ 8 + zeros_of (drop (i + 1) l)
  zeros_one i h = omega (arith, zeros_step l i (i + 1) refl h, zeros_ones 8 (byte l i) (b i))

  ones_four : (k : ℕ) → ones (four_at l k) ≡ ones (byte l k) + ones (byte l (k + 1)) + ones (byte l (k + 2)) + ones (byte l (k + 3))
  unfolding four_at
  ones_four k =
      let x = byte l k in
      let y = byte l (k + 1) in
      let z = byte l (k + 2) in
      let w = byte l (k + 3) in
      let e : x + 256 * y + 65536 * z + 16777216 * w ≡ w * 16777216 + (z * 65536 + (y * 256 + x)) = omega arith in
      ap ones e
      ∙ ones_cat 24 w (z * 65536 + (y * 256 + x)) (omega (arith, b k, b (k + 1), b (k + 2)))
      ∙ omega (arith, ones_cat 16 z (y * 256 + x) (omega (arith, b k, b (k + 1))), ones_cat 8 y x (b k))

  pub four_few : (k : ℕ) → ones (four_at l k) ≤ 32
  four_few k = ones-le 32 (four_at l k) (four_fits l k b)

  -- four of them, and the rest
  pub zeros_four : (k : ℕ) → k + 4 ≤ length l → zeros_of (drop k l) + ones (four_at l k) ≡ 32 + zeros_of (drop (k + 4) l)
  zeros_four k h =
      let e1 : k + 1 + 1 ≡ k + 2 = omega arith in
      let e2 : k + 2 + 1 ≡ k + 3 = omega arith in
      let e3 : k + 3 + 1 ≡ k + 4 = omega arith in
      let at : ℕ → ℕ = λ j. zeros_of (drop j l) in
      omega (
        arith,
        ones_four k,
        zeros_one k (omega arith),
        zeros_one (k + 1) (omega arith),
        zeros_one (k + 2) (omega arith),
        zeros_one (k + 3) (omega arith),
        ap at e1,
        ap at e2,
        ap at e3,
      )

  ones_eight : (k : ℕ) → ones (eight_at l k) ≡ ones (four_at l k) + ones (four_at l (k + 4))
  unfolding eight_at
  ones_eight k =
      let e : four_at l k + 4294967296 * four_at l (k + 4) ≡ four_at l (k + 4) * 4294967296 + four_at l k = omega arith in
      omega (arith, ap ones e, ones_cat 32 (four_at l (k + 4)) (four_at l k) (four_fits l k b))

  pub eight_few : (k : ℕ) → ones (eight_at l k) ≤ 64
  eight_few k = omega (arith, ones_eight k, four_few k, four_few (k + 4))

  -- eight of them, and the rest
  pub zeros_eight : (k : ℕ) → k + 8 ≤ length l → zeros_of (drop k l) + ones (eight_at l k) ≡ 64 + zeros_of (drop (k + 8) l)
  zeros_eight k h =
      let e : k + 4 + 4 ≡ k + 8 = omega arith in
      omega (arith, ones_eight k, zeros_four k (omega arith), zeros_four (k + 4) (omega arith), ap (λ (j : ℕ). zeros_of (drop j l)) e)

  -- the same, where they were taken from the front
  module _ (m : ℕ) (front rest : List ℕ) (e : drop m l ≡ front ++ rest) (n : length front ≡ 8) where
    byte_front : (j k : ℕ) → j < 8 → m + j ≡ k → byte front j ≡ byte l k
    byte_front j k h q =
        sym (get_or-append front rest 0 j (omega (arith, n)))
        ∙ ap (λ (t : List ℕ). byte t j) (sym e)
        ∙ get_or-drop m l j 0
        ∙ ap (byte l) q

    eight_front : eight_at front 0 ≡ eight_at l m
    unfolding eight_at four_at
    eight_front =
        omega (
          arith,
          byte_front 0 m (omega arith) (omega arith),
          byte_front 1 (m + 1) (omega arith) refl,
          byte_front 2 (m + 2) (omega arith) refl,
          byte_front 3 (m + 3) (omega arith) refl,
          byte_front 4 (m + 4) (omega arith) refl,
          byte_front 5 (m + 4 + 1) (omega arith) (omega arith),
          byte_front 6 (m + 4 + 2) (omega arith) (omega arith),
          byte_front 7 (m + 4 + 3) (omega arith) (omega arith),
        )

    front_long : m + 8 + length rest ≡ length l
    front_long = omega (arith, ap length e, length-drop m l, length-append front rest, n)

    front_rest : rest ≡ drop (m + 8) l
    front_rest = sym (ap (λ (k : ℕ). drop (m + k) l) (sym n) ∙ sym (drop-drop (length front) m l) ∙ ap (drop (length front)) e ∙ drop-append_seam front rest)

    pub front_taken : Taken l m front rest
    front_taken =
        record {
          few = omega (arith, ap ones eight_front, eight_few m);
          long = front_long;
          behind = front_rest;
          zeros = omega (arith, ap ones eight_front, zeros_eight m (omega (arith, front_long)), ap zeros_of front_rest);
        }
