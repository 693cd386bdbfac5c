-- Laws of blocks, where the first i bytes of s are laid over d.
use mathlib.Core.Path.{◌≡◌, refl, sym, ap, ◌∙◌}
use mathlib.Core.List.{List, [], ◌∷◌, ◌++◌, append-nil}
use Prim.Native.Nat.{ℕ, zero, suc, ◌+◌, ◌-◌, ◌≤◌}
use native.Mathlib.Nat.{zero-add, not-suc-le-zero, le_of_suc-le-suc, suc-add}
use native.Mathlib.Omega.{arith}
use lib.ListN.{length, take, drop, length-drop, drop_of_length-le}
use lib.Seq.{length-take-le}
use borrow.Rule.Slice.PartMut.{put_mid}
use lib.Lanes.{chunk, put_chunk}
use Rattle.std.proofs.lemmas.Simd.{put_chunk_is}
use Rattle.words.specs.Bytes.{over}
use Rattle.words.proofs.Lists.{lent_tail, copied_all}
use Rattle.copies.specs.Blocks.{block}

drop_copied : (i k : ℕ) (s d : List ℕ) → i ≤ k → k ≤ length s → length s ≤ length d → drop k (take i s ++ drop i d) ≡ drop k d
drop_copied zero k s d h l w = refl
drop_copied (suc i) zero s d h l w = absurd (not-suc-le-zero h)
drop_copied (suc i) (suc k) [] d h l w = absurd (not-suc-le-zero l)
drop_copied (suc i) (suc k) (x ∷ s) [] h l w = absurd (not-suc-le-zero w)
drop_copied (suc i) (suc k) (x ∷ s) (y ∷ d) h l w = drop_copied i k s d (le_of_suc-le-suc h) (le_of_suc-le-suc l) (le_of_suc-le-suc w)

-- a block that starts in them, or just behind, and ends behind: so many are laid
pub block_copied : (a i k : ℕ) (s d : List ℕ) → a ≤ i → i ≤ a + k → a + k ≤ length s → length s ≤ length d
    → block k a s (take i s ++ drop i d) ≡ take (a + k) s ++ drop (a + k) d
unfolding block over
block_copied zero i k s d h t l w =
    ap (λ (m : ℕ). take k s ++ drop m (take i s ++ drop i d)) (length-take-le k s (omega arith))
    ∙ ap (λ (r : List ℕ). take k s ++ r) (drop_copied i k s d (omega arith) (omega arith) w)
    ∙ ap (λ (m : ℕ). take m s ++ drop m d) (sym (zero-add k))
block_copied (suc a) zero k s d h t l w = absurd (not-suc-le-zero h)
block_copied (suc a) (suc i) k [] d h t l w = absurd (omega arith)
block_copied (suc a) (suc i) k (x ∷ s) [] h t l w = absurd (not-suc-le-zero w)
block_copied (suc a) (suc i) k (x ∷ s) (y ∷ d) h t l w =
    ap (λ (r : List ℕ). x ∷ r) (block_copied a i k s d (le_of_suc-le-suc h) (omega arith) (omega arith) (le_of_suc-le-suc w))
    ∙ ap (λ (m : ℕ). take m (x ∷ s) ++ drop m (y ∷ d)) (sym (suc-add a k))

-- so many bytes read at a place and put there
pub chunk_laid : (k at : ℕ) (s d : List ℕ) → at + k ≤ length s → at + k ≤ length d → put_chunk at d (chunk at k s) ≡ block k at s d
unfolding block over
chunk_laid k at s d h w = put_chunk_is at d (take k (drop at s)) (omega (arith, length-take-le k (drop at s) (omega (arith, length-drop at s))))

-- a turn of the loop: a block more is laid
pub block_more : (i k : ℕ) (s d : List ℕ) {h g : List ℕ} → h ≡ take i s ++ drop i d → g ≡ block k i s h → i + k ≤ length s → length s ≤ length d
    → g ≡ take (i + k) s ++ drop (i + k) d
block_more i k s d p q l w = q ∙ ap (block k i s) p ∙ block_copied i i k s d (omega arith) (omega arith) l w

-- the last block: all are laid
pub block_last : (i k : ℕ) (s d : List ℕ) {h g : List ℕ} → h ≡ take i s ++ drop i d → g ≡ block k (length s - k) s h
    → i ≤ length s → k ≤ length s → length s ≤ i + k → length s ≤ length d → g ≡ over s d
block_last i k s d p q h l t w =
    q ∙ ap (block k (length s - k) s) p
    ∙ block_copied (length s - k) i k s d (omega arith) (omega arith) (omega arith) w
    ∙ copied_all (length s - k + k) s d (omega arith)

-- ---- blocks by themselves (docs/CHANGES.md names these laws)
-- a block read whole, in the m bytes that a slice from `at` to `at + k` has, and then laid
pub block_laid : (k at m : ℕ) (s d z : List ℕ) {h y : List ℕ} → m ≡ k → length z ≡ k → at + k ≤ length s
    → h ≡ over (take m (drop at s)) z → y ≡ over h (take (length d - at) (drop at d)) → put_mid at (length d - at) d y ≡ block k at s d
unfolding block over
block_laid k at m s d z {h} r e l p q =
    let w : List ℕ = take k (drop at s) in
    let n : length w ≡ k = length-take-le k (drop at s) (omega (arith, length-drop at s)) in
    let held : h ≡ w =
    p ∙ ap (λ (i : ℕ). over (take i (drop at s)) z) r ∙ ap (λ (t : List ℕ). w ++ t) (drop_of_length-le z {i = length w} (omega (arith, n, e))) ∙ append-nil w in
    lent_tail at d h q ∙ ap (λ (t : List ℕ). take at d ++ over t (drop at d)) held

-- the first block and the last: all are laid
pub block_twice : (k : ℕ) (s d : List ℕ) → k ≤ length s → length s ≤ k + k → length s ≤ length d → block k (length s - k) s (block k 0 s d) ≡ over s d
block_twice k s d l t w =
    block_last (0 + k) k s d (block_copied 0 0 k s d (omega arith) (omega arith) (omega arith) w) refl (omega arith) l (omega arith) w

-- a block behind a block is a longer one
block_joined : (a k j : ℕ) (s d : List ℕ) → a + k + j ≤ length s → length s ≤ length d → block j (a + k) s (block k a s d) ≡ block (k + j) a s d
unfolding block over
block_joined zero k j s d l w =
    let e : 0 + k + j ≡ k + j = omega arith in
    ap (λ (m : ℕ). block j (0 + k) s (take k s ++ drop m d)) (length-take-le k s (omega arith))
    ∙ block_copied (0 + k) k j s d (omega arith) (omega arith) l w
    ∙ ap (λ (m : ℕ). take m s ++ drop m d) e
    ∙ ap (λ (m : ℕ). take (k + j) s ++ drop m d) (sym (length-take-le (k + j) s (omega arith)))
block_joined (suc a) k j [] d l w = absurd (omega arith)
block_joined (suc a) k j (x ∷ s) [] l w = absurd (not-suc-le-zero w)
block_joined (suc a) k j (x ∷ s) (y ∷ d) l w =
    ap (λ (m : ℕ). block j m (x ∷ s) (block k (suc a) (x ∷ s) (y ∷ d))) (suc-add a k)
    ∙ ap (λ (r : List ℕ). y ∷ r) (block_joined a k j s d (omega arith) (le_of_suc-le-suc w))

pub block_next : (a k j : ℕ) (s d : List ℕ) {h g : List ℕ} → a + k + j ≤ length s → length s ≤ length d → h ≡ block k a s d → g ≡ block j (a + k) s h → g ≡ block (k + j) a s d
block_next a k j s d l w p q = q ∙ ap (block j (a + k) s) p ∙ block_joined a k j s d l w
