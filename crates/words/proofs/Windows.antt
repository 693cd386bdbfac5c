-- Laws of a window of a list: the n bytes from `at` on, where a byte of the list is set; and of zeros stored.
use mathlib.Core.Path.{◌≡◌, sym, ap, ◌∙◌}
use mathlib.Core.List.{List, ◌++◌}
use Prim.Native.Nat.{ℕ, suc, ◌+◌, ◌-◌, ◌≤◌, ◌<◌}
use native.Mathlib.Numerals.{add-one}
use native.Mathlib.Omega.{arith}
use lib.ListN.{length, take, drop, set, replicate, length-set, length-drop, length-replicate, replicate-append-replicate}
use lib.Seq.{sets, length-take-le, set-append_left, take-set-le, take-set-lt, drop-set-lt, drop-set-add}
use Rattle.words.specs.Bytes.{over}
use Rattle.words.proofs.Lists.{sets_snoc}

-- where byte k is set
module _ (at n : ℕ) (image out : List ℕ) (fits : at + n ≤ length image) (room : n ≤ length out) where
  window_long : length (take n (drop at image)) ≡ n
  window_long = length-take-le n (drop at image) (omega (arith, length-drop at image))

  pub window_out : (k v : ℕ) → (k < at → take n (drop at (set image k v)) ≡ take n (drop at image)) × (at + n ≤ k → take n (drop at (set image k v)) ≡ take n (drop at image))
  window_out k v = (
    λ h. ap (take n) (drop-set-lt at image k v h),
    λ h.
        let e : at + (k - at) ≡ k = omega arith in
        ap (λ (m : ℕ). take n (drop at (set image m v))) (sym e) ∙ ap (take n) (drop-set-add at image (k - at) v) ∙ take-set-le n (drop at image) (k - at) v (omega arith),
  )

  pub window_in : (k v : ℕ) → at ≤ k → k < at + n → over (take n (drop at (set image k v))) out ≡ set (over (take n (drop at image)) out) (k - at) v
  unfolding over
  window_in k v h b =
      let e : at + (k - at) ≡ k = omega arith in
      let w : take n (drop at (set image k v)) ≡ set (take n (drop at image)) (k - at) v =
      ap (λ (m : ℕ). take n (drop at (set image m v))) (sym e) ∙ ap (take n) (drop-set-add at image (k - at) v) ∙ take-set-lt n (drop at image) (k - at) v (omega arith) in
      ap (λ (l : List ℕ). l ++ drop (length l) out) w
      ∙ ap (λ (m : ℕ). set (take n (drop at image)) (k - at) v ++ drop m out) (length-set (take n (drop at image)) (k - at) v)
      ∙ sym (set-append_left (take n (drop at image)) (drop (length (take n (drop at image))) out) (k - at) v (omega (arith, window_long)))

-- zeros stored, one more
pub sets_zeros : (image : List ℕ) (code n : ℕ) → sets image code (replicate (suc n) 0) ≡ set (sets image code (replicate n 0)) (code + n) 0
sets_zeros image code n =
    ap (sets image code) (ap (λ (m : ℕ). replicate m 0) (sym (add-one n)) ∙ sym (replicate-append-replicate n 1 0))
    ∙ sets_snoc image code (replicate n 0) 0
    ∙ ap (λ (m : ℕ). set (sets image code (replicate n 0)) (code + m) 0) (length-replicate n 0)
