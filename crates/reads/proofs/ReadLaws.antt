-- Laws of reads: code bytes blanked in the buffer are code bytes blanked in the image.
use mathlib.Core.Path.{◌≡◌, refl, sym, ap, ◌∙◌}
use mathlib.Core.List.{List}
use mathlib.Core.Bool.{Bool, true, false}
use Prim.Native.Nat.{ℕ, zero, suc, ◌+◌, ◌-◌, ◌≤◌, ◌<◌}
use native.Mathlib.Decide.{dec_le}
use native.Mathlib.Nat.{lt_of_not-le}
use native.Mathlib.Omega.{arith}
use lib.ListN.{length, take, drop, set, replicate, length-set, length-drop, length-replicate}
use lib.Seq.{sets, length-sets, length-take-le}
use borrow.Author.Tests.{le-leb, lt-leb, lt-ltb, le-ltb}
use Rattle.words.specs.Bytes.{over}
use Rattle.words.proofs.Choices.{either, first, rest, taken, passed}
use Rattle.words.proofs.Windows.{window_out, window_in, sets_zeros}
use Rattle.reads.specs.Reads.{visible, bytes_read, counter_read}
use Rattle.reads.specs.Inner.{blank_one, blanked}

-- ---- one byte
pub blank_before : (at end k : ℕ) (out : List ℕ) → k < at → blank_one at end k out ≡ out
unfolding blank_one
blank_before at end k out h = rest _ _ (lt-leb at k h)

pub blank_behind : (at end k : ℕ) (out : List ℕ) → at ≤ k → end ≤ k → blank_one at end k out ≡ out
unfolding blank_one
blank_behind at end k out h e = first _ _ (le-leb at k h) ∙ rest _ _ (le-ltb k end e)

pub blank_here : (at end k : ℕ) (out : List ℕ) → at ≤ k → k < end → blank_one at end k out ≡ set out (k - at) 0
unfolding blank_one
blank_here at end k out h e = first _ _ (le-leb at k h) ∙ first _ _ (lt-ltb k end e)

pub length_blank_one : (at end k : ℕ) (out : List ℕ) → length (blank_one at end k out) ≡ length out
length_blank_one at end k out = go (dec_le at k) (dec_le end k)
  where
    go : Dec (at ≤ k) → Dec (end ≤ k) → length (blank_one at end k out) ≡ length out
    go (no h) e = ap length (blank_before at end k out (lt_of_not-le h))
    go (yes h) (yes e) = ap length (blank_behind at end k out h e)
    go (yes h) (no e) = ap length (blank_here at end k out h (lt_of_not-le e)) ∙ simp length-set

pub length_blanked : (at end code n : ℕ) (out : List ℕ) → length (blanked at end code n out) ≡ length out
unfolding blanked
length_blanked at end code zero out = refl
length_blanked at end code (suc n) out = length_blank_one at end (code + n) (blanked at end code n out) ∙ length_blanked at end code n out

pub blanked_none : (at end code : ℕ) (out : List ℕ) → blanked at end code 0 out ≡ out
unfolding blanked
blanked_none at end code out = refl

-- a turn of the loop: one byte more
pub blanked_more : (at end code k : ℕ) (out : List ℕ) {l h : List ℕ} → code ≤ k → l ≡ blanked at end code (k - code) out → h ≡ blank_one at end k l
    → h ≡ blanked at end code (k + 1 - code) out
unfolding blanked
blanked_more at end code k out c p q =
    let next : k + 1 - code ≡ suc (k - code) = omega arith in
    let here : code + (k - code) ≡ k = omega arith in
    q ∙ ap (blank_one at end k) p ∙ ap (λ (m : ℕ). blank_one at end m (blanked at end code (k - code) out)) (sym here) ∙ ap (λ (m : ℕ). blanked at end code m out) (sym next)

-- ---- a byte of the window
module _ (at n : ℕ) (image out : List ℕ) (fits : at + n ≤ length image) (room : n ≤ length out) where
  -- one byte blanked in the buffer is that byte set in the image
  pub blank_window : (k : ℕ) → blank_one at (at + n) k (over (take n (drop at image)) out) ≡ over (take n (drop at (set image k 0))) out
  blank_window k = go (dec_le at k) (dec_le (at + n) k)
    where
      go : Dec (at ≤ k) → Dec (at + n ≤ k) → blank_one at (at + n) k (over (take n (drop at image)) out) ≡ over (take n (drop at (set image k 0))) out
      go (no h) e = blank_before at (at + n) k _ (lt_of_not-le h) ∙ ap (λ (l : List ℕ). over l out) (sym ((window_out at n image out fits room k 0).0 (lt_of_not-le h)))
      go (yes h) (yes e) = blank_behind at (at + n) k _ h e ∙ ap (λ (l : List ℕ). over l out) (sym ((window_out at n image out fits room k 0).1 e))
      go (yes h) (no e) = blank_here at (at + n) k _ h (lt_of_not-le e) ∙ sym (window_in at n image out fits room k 0 h (lt_of_not-le e))

-- the code blanked in the buffer is the code blanked in the image
blank_code : (at n code digits : ℕ) (image out : List ℕ) → at + n ≤ length image → n ≤ length out
    → blanked at (at + n) code digits (over (take n (drop at image)) out) ≡ over (take n (drop at (sets image code (replicate digits 0)))) out
unfolding blanked
blank_code at n code zero image out h r = refl
blank_code at n code (suc d) image out h r =
    ap (blank_one at (at + n) (code + d)) (blank_code at n code d image out h r)
    ∙ blank_window at n (sets image code (replicate d 0)) out (omega (arith, length-sets image code (replicate d 0))) r (code + d)
    ∙ ap (λ (l : List ℕ). over (take n (drop at l)) out) (sym (sets_zeros image code d))

-- ---- what is read
-- an open card shows its bytes
pub read_open : (code digits : ℕ) {o : Bool} (image : List ℕ) (at n : ℕ) → o ≡ true → take n (drop at image) ≡ bytes_read code digits o image at n
unfolding bytes_read visible
read_open code digits image at n e = ap (λ (l : List ℕ). take n (drop at l)) (taken _ e)

-- a closed one shows its bytes with the code blanked
pub read_closed : (code digits : ℕ) {o : Bool} (image out : List ℕ) (at n : ℕ) → o ≡ false → at + n ≤ length image → n ≤ length out
    → blanked at (at + n) code digits (over (take n (drop at image)) out) ≡ over (bytes_read code digits o image at n) out
unfolding bytes_read visible
read_closed code digits image out at n e h r =
    blank_code at n code digits image out h r ∙ ap (λ (l : List ℕ). over (take n (drop at l)) out) (passed _ e refl)

-- ---- how long what is read is
pub length_bytes_read : (code digits : ℕ) (o : Bool) (image : List ℕ) (at n : ℕ) → at + n ≤ length image → length (bytes_read code digits o image at n) ≡ n
unfolding bytes_read visible
length_bytes_read code digits o image at n h =
    either (λ (im : List ℕ). length (take n (drop at im)) ≡ n) o
    (λ _. length-take-le n (drop at image) (omega (arith, length-drop at image)))
    (λ _. let z : List ℕ = sets image code (replicate digits 0) in
    length-take-le n (drop at z) (omega (arith, length-drop at z, length-sets image code (replicate digits 0))))

pub length_counter_read : (counter : ℕ) (image : List ℕ) (n : ℕ) → 1 ≤ n → length (counter_read counter image n) ≡ n
unfolding counter_read
length_counter_read counter image n h = omega (arith, length-replicate {A = ℕ} (n - 1) 0)
