-- Laws of lists: bytes over a buffer, a run, a part that was lent and came back, stores that miss a place; and of numbers.
use mathlib.Core.Path.{◌≡◌, refl, sym, ap, ap₂, ◌∙◌, subst}
use mathlib.Core.List.{List, [], ◌∷◌, ◌++◌, append_assoc, append-nil}
use mathlib.Core.Bool.{Bool, true, false, ◌&&◌}
use mathlib.Core.Logic.{◌⊎◌, inl, inr}
use Prim.Native.Nat.{ℕ, zero, suc, ◌+◌, ◌-◌, ◌*◌, ◌%◌, ◌≤◌, ◌<◌, min}
use native.Mathlib.Nat.{add_comm, zero-add, not-suc-le-zero, le_of_suc-le-suc, add-suc, suc-add, add-zero, mul-suc, mod-add-mod, mod-eq_of_lt}
use native.Mathlib.Numerals.{add-one}
use native.Mathlib.Omega.{arith}
use lib.ListN.{length, take, drop, set, get_or, length-append, length-drop, drop_of_length-le, take-append-drop}
use lib.Seq.{length-take-le, set_at, drop-cons, drop-drop, drop_at, append_snoc, take_at, take-append_seam, sets, get_or-set_other}
use lib.Seq.{sets-eq, get_or-append-add, get_or-drop, take-length}
use lib.Dec.{eqb}
use Rattle.std.specs.Cmp.Lexicographic.{pointwise}
use borrow.Rule.Slice.PartMut.{put_mid}
use borrow.Author.Tests.{eq-eqb, ne_eqb, eqb-true}
use Rattle.std.proofs.lemmas.List.{take_rest, nil_from_length}
use Rattle.std.proofs.lemmas.Slice.{between_is}
use Rattle.words.specs.Choice.{◌and◌, ◌is◌}
use Rattle.words.specs.Bytes.{byte, blank, same, four_at, over, series}
use Rattle.words.proofs.Choices.{and_fails, and_holds, and_true, and_end, both}

-- ---- bytes over a buffer
-- a loop that copies from the front: one turn
copy_suc : (i : ℕ) (s d : List ℕ) → i < length s → i < length d → set (take i s ++ drop i d) i (get_or s i 0) ≡ take (suc i) s ++ drop (suc i) d
copy_suc i [] d h k = absurd (not-suc-le-zero h)
copy_suc i (x ∷ s) [] h k = absurd (not-suc-le-zero k)
copy_suc zero (x ∷ s) (y ∷ d) h k = refl
copy_suc (suc i) (x ∷ s) (y ∷ d) h k = ap (λ (t : List ℕ). x ∷ t) (copy_suc i s d (le_of_suc-le-suc h) (le_of_suc-le-suc k))

pub copy_more : (i : ℕ) (s d : List ℕ) → i < length s → i < length d → set (take i s ++ drop i d) i (get_or s i 0) ≡ take (i + 1) s ++ drop (i + 1) d
copy_more i s d h k = rw (add-one i) (copy_suc i s d h k)

-- as many turns as there are bytes
pub copied_all : (n : ℕ) (s d : List ℕ) → n ≡ length s → take n s ++ drop n d ≡ over s d
unfolding over
copied_all n s d e = ap (λ (m : ℕ). take m s ++ drop m d) e ∙ ap (λ (t : List ℕ). t ++ drop (length s) d) (take-length s)

-- a loop that slides bytes to the front: one turn, which reads ahead of what it has written
pub slide_more : (at i : ℕ) (d : List ℕ) {l : List ℕ} → at + i < length d → l ≡ take i (drop at d) ++ drop i d
    → set l i (get_or l (at + i) 0) ≡ take (i + 1) (drop at d) ++ drop (i + 1) d
slide_more at i d {l} h e =
    let s : List ℕ = drop at d in
    let k : i < length s = omega (arith, length-drop at d) in
    let t : length (take i s) ≡ i = length-take-le i s (omega arith) in
    let n : at + i ≡ length (take i s) + at = omega (arith, t) in
    let r : get_or (take i s ++ drop i d) (at + i) 0 ≡ get_or s i 0 =
    ap (λ (m : ℕ). get_or (take i s ++ drop i d) m 0) n ∙ get_or-append-add (take i s) (drop i d) at 0 ∙ get_or-drop i d at 0
    ∙ ap (λ (m : ℕ). get_or d m 0) (add_comm i at) ∙ sym (get_or-drop at d i 0) in
    ap (λ (x : List ℕ). set x i (get_or x (at + i) 0)) e
    ∙ ap (set (take i s ++ drop i d) i) r
    ∙ copy_more i s d k (omega arith)

pub over_none : (d : List ℕ) → over [] d ≡ d
unfolding over
over_none d = refl

pub length_over : (b d : List ℕ) → length b ≤ length d → length (over b d) ≡ length d
unfolding over
length_over b d h = simp (length-append, length-drop) (omega arith)

-- one byte more: a store just past the bytes
pub over_snoc : (b d : List ℕ) (x n : ℕ) → length b ≡ n → n < length d → set (over b d) n x ≡ over (b ++ (x ∷ [])) d
unfolding over
over_snoc b d x n e h =
    let k : length b < length d = omega arith in
    ap (λ (t : List ℕ). set (b ++ t) n x) (drop-cons d (length b) 0 k)
    ∙ set_at b (get_or d (length b) 0) (drop (suc (length b)) d) x n e
    ∙ sym (append_snoc b x (drop (suc (length b)) d))
    ∙ ap (λ (m : ℕ). (b ++ (x ∷ [])) ++ drop m d) (sym (length-append b (x ∷ []) ∙ add-one (length b)))

-- two bytes more
pub over_two : (b d : List ℕ) (n x y : ℕ) → length b ≡ n → n + 2 ≤ length d → set (set (over b d) n x) (n + 1) y ≡ over (b ++ (x ∷ y ∷ [])) d
over_two b d n x y e h =
    ap (λ (t : List ℕ). set t (n + 1) y) (over_snoc b d x n e (omega arith))
    ∙ over_snoc (b ++ (x ∷ [])) d y (n + 1) (length-append b (x ∷ []) ∙ ap (λ (m : ℕ). m + 1) e) (omega arith)
    ∙ ap (λ (t : List ℕ). over t d) (append_assoc b (x ∷ []) (y ∷ []))

-- two bytes on their own
pub over_pair : (d : List ℕ) (x y : ℕ) → 2 ≤ length d → set (set d 0 x) (0 + 1) y ≡ over (x ∷ y ∷ []) d
unfolding over
over_pair d x y h = over_two [] d 0 x y refl (omega arith)

-- a header over the front of a whole whose tail was filled first
pub over_head : (k : ℕ) (h b a : List ℕ) → length h ≡ k → k ≤ length a → over h (take k a ++ over b (drop k a)) ≡ over (h ++ b) a
unfolding over
over_head k h b a e l =
    ap (λ (t : List ℕ). h ++ t) (drop_at (take k a) (over b (drop k a)) (length h) (length-take-le k a l ∙ sym e))
    ∙ sym (append_assoc h b (drop (length b) (drop k a)))
    ∙ ap (λ (t : List ℕ). (h ++ b) ++ t) (drop-drop (length b) k a ∙ ap (λ (m : ℕ). drop m a) (sym (length-append h b ∙ ap (λ (m : ℕ). m + length b) e)))

-- the front of a buffer laid over it changes nothing
pub over_front : (n : ℕ) (l : List ℕ) → n ≤ length l → over (take n l) l ≡ l
unfolding over
over_front n l h = ap (λ (k : ℕ). take n l ++ drop k l) (length-take-le n l h) ∙ take-append-drop n l

-- bytes laid over a buffer are its front
pub front_over : (b d : List ℕ) → take (length b) (over b d) ≡ b
unfolding over
front_over b d = take-append_seam b (drop (length b) d)

-- and so they are where so many are taken
pub front_laid : (d : List ℕ) {b h : List ℕ} {n : ℕ} → n ≡ length b → h ≡ over b d → take n h ≡ b
front_laid d {b} e p = ap₂ take e p ∙ front_over b d

-- bytes behind bytes
over_more : (n : ℕ) (b c d : List ℕ) → length b ≡ n → take n (over b d) ++ over c (drop n (over b d)) ≡ over (b ++ c) d
unfolding over
over_more n b c d e =
    ap (λ (t : List ℕ). t ++ over c (drop n (over b d))) (take_at b (drop (length b) d) n e)
    ∙ ap (λ (t : List ℕ). b ++ over c t) (drop_at b (drop (length b) d) n e)
    ∙ ap (λ (t : List ℕ). b ++ (c ++ t)) (drop-drop (length c) (length b) d)
    ∙ sym (append_assoc b c (drop (length b + length c) d))
    ∙ ap (λ (k : ℕ). (b ++ c) ++ drop k d) (sym (length-append b c))

-- bytes laid over no more than as many others
pub over_again : (b c d : List ℕ) → length b ≤ length c → over c (over b d) ≡ over c d
unfolding over
over_again b c d h =
    let m : ℕ = length c - length b in
    let e : length c ≡ length b + m = omega arith in
    ap (λ (t : List ℕ). c ++ t)
    (ap (λ (n : ℕ). drop n (over b d)) e ∙ sym (drop-drop m (length b) (over b d)) ∙ ap (drop m) (drop_at b (drop (length b) d) (length b) refl) ∙ drop-drop m (length b) d
    ∙ ap (λ (n : ℕ). drop n d) (sym e))

-- ---- runs
pub length_series : (f : ℕ → ℕ) (k n : ℕ) → length (series f k n) ≡ n
unfolding series
length_series f k zero = refl
length_series f k (suc n) = ap suc (length_series f (suc k) n)

series_suc : (f : ℕ → ℕ) (k n : ℕ) → series f k (suc n) ≡ series f k n ++ (f (k + n) ∷ [])
unfolding series
series_suc f k zero = ap (λ (m : ℕ). f m ∷ []) (sym (add-zero k))
series_suc f k (suc n) = ap (λ (t : List ℕ). f k ∷ t) (series_suc f (suc k) n ∙ ap (λ (m : ℕ). series f (suc k) n ++ (f m ∷ [])) (suc-add k n ∙ sym (add-suc k n)))

-- a loop that fills from the front by a rule: one turn
pub series_more : (f : ℕ → ℕ) (k n : ℕ) (d : List ℕ) → n < length d → set (over (series f k n) d) n (f (k + n)) ≡ over (series f k (n + 1)) d
series_more f k n d h =
    over_snoc (series f k n) d (f (k + n)) n (length_series f k n) h
    ∙ ap (λ (t : List ℕ). over t d) (sym (ap (series f k) (add-one n) ∙ series_suc f k n))

pub series_next : (f : ℕ → ℕ) (n : ℕ) (d : List ℕ) → n < length d → set (over (series f 0 n) d) n (f n) ≡ over (series f 0 (n + 1)) d
series_next f n d h = ap (λ (m : ℕ). set (over (series f 0 n) d) n (f m)) (sym (zero-add n)) ∙ series_more f 0 n d h

-- and several bytes at a turn
pub series_laid : (f : ℕ → ℕ) (n m : ℕ) (d : List ℕ) → n + m ≤ length d → sets (over (series f 0 n) d) n (series f n m) ≡ over (series f 0 (n + m)) d
unfolding series
series_laid f n zero d h = ap (λ (k : ℕ). over (series f 0 k) d) (sym (add-zero n))
series_laid f n (suc m) d h =
    let e : n + 1 ≡ suc n = omega arith in
    let p : suc n + m ≡ n + suc m = omega arith in
    ap (λ (t : List ℕ). sets t (suc n) (series f (suc n) m)) (series_next f n d (omega arith) ∙ ap (λ (k : ℕ). over (series f 0 k) d) e)
    ∙ series_laid f (suc n) m d (omega arith)
    ∙ ap (λ (k : ℕ). over (series f 0 k) d) p

-- two runs of the same numbers
pub series_same : (f g : ℕ → ℕ) (j k n : ℕ) → ((i : ℕ) → i < n → f (j + i) ≡ g (k + i)) → series f j n ≡ series g k n
unfolding series
series_same f g j k zero e = refl
series_same f g j k (suc n) e =
    let here : f j ≡ g k = ap f (sym (add-zero j)) ∙ e 0 (omega arith) ∙ ap g (add-zero k) in
    let later : series f (suc j) n ≡ series g (suc k) n =
    series_same f g (suc j) (suc k) n (λ i b.
    let p : suc j + i ≡ j + suc i = omega arith in
    let q : k + suc i ≡ suc k + i = omega arith in
    ap f p ∙ e (suc i) (omega arith) ∙ ap g q) in
    ap₂ (λ (x : ℕ) (t : List ℕ). x ∷ t) here later

-- a run that follows a list is that part of the list
pub series_part : (f : ℕ → ℕ) (s k n : ℕ) (l : List ℕ) → k + n ≤ length l → ((j : ℕ) → j < n → f (s + j) ≡ byte l (k + j)) → series f s n ≡ take n (drop k l)
unfolding series
series_part f s k zero l h e = refl
series_part f s k (suc n) l h e =
    let here : f s ≡ byte l k = ap f (sym (add-zero s)) ∙ e 0 (omega arith) ∙ ap (byte l) (add-zero k) in
    let later : series f (suc s) n ≡ take n (drop (suc k) l) =
    series_part f (suc s) (suc k) n l (omega arith) (λ j b.
    let p : suc s + j ≡ s + suc j = omega arith in
    let q : k + suc j ≡ suc k + j = omega arith in
    ap f p ∙ e (suc j) (omega arith) ∙ ap (byte l) q) in
    ap₂ (λ (x : ℕ) (t : List ℕ). x ∷ t) here later ∙ ap (take (suc n)) (sym (drop-cons l k 0 (omega arith)))

-- byte j of a run
pub series_at : (f : ℕ → ℕ) (k n j : ℕ) → j < n → byte (series f k n) j ≡ f (k + j)
unfolding series
series_at f k zero j h = absurd (omega arith)
series_at f k (suc n) zero h = ap f (sym (add-zero k))
series_at f k (suc n) (suc j) h =
    let p : suc k + j ≡ k + suc j = omega arith in
    series_at f (suc k) n j (omega arith) ∙ ap f p

-- ---- the tail `&s[k..]`, as the borrow checker has it: `take (length s - k) (drop k s)`
pub tail_is : (k : ℕ) (a : List ℕ) → take (length a - k) (drop k a) ≡ drop k a
tail_is k a = take_rest a k

-- `&mut a[k..]` was lent and came back as y: what a holds
pub lent_back : (k : ℕ) (a : List ℕ) (y : List ℕ) → put_mid k (length a - k) a y ≡ take k a ++ y
lent_back k a y =
    ap (λ (t : List ℕ). take k a ++ (y ++ t)) (drop_of_length-le (drop k a) {i = length a - k} (omega (arith, length-drop k a)))
    ∙ ap (λ (t : List ℕ). take k a ++ t) (append-nil y)

-- the same where it came back with b over it
pub lent_tail : (k : ℕ) (a b : List ℕ) {y : List ℕ} → y ≡ over b (take (length a - k) (drop k a)) → put_mid k (length a - k) a y ≡ take k a ++ over b (drop k a)
lent_tail k a b {y} e = lent_back k a y ∙ ap (λ (t : List ℕ). take k a ++ t) (e ∙ ap (over b) (tail_is k a))

-- what is lent behind k bytes
pub length_tail : (k : ℕ) (a : List ℕ) → length (take (length a - k) (drop k a)) ≡ length a - k
length_tail k a = ap length (tail_is k a) ∙ length-drop k a

-- `&mut a[k..]` was lent, where a held b, and came back with c over it
pub over_lent : (k : ℕ) (a b c d : List ℕ) {y : List ℕ} → a ≡ over b d → length b ≡ k → y ≡ over c (take (length a - k) (drop k a)) → put_mid k (length a - k) a y ≡ over (b ++ c) d
over_lent k a b c d p e h = lent_tail k a c h ∙ ap (λ (t : List ℕ). take k t ++ over c (drop k t)) p ∙ over_more k b c d e

-- a part that was lent and came back as so many bytes is a run of stores
pub mid_sets : (k : ℕ) (l : List ℕ) {vs y : List ℕ} {n : ℕ} → y ≡ vs → n ≡ length vs → k + length vs ≤ length l → put_mid k n l y ≡ sets l k vs
mid_sets k l {vs} {y} {n} e m h =
    ap₂ (λ (i : ℕ) (t : List ℕ). put_mid k i l t) m e
    ∙ ap (λ (t : List ℕ). take k l ++ (vs ++ t)) (drop-drop (length vs) k l)
    ∙ sym (append_assoc (take k l) vs (drop (k + length vs) l))
    ∙ sym (sets-eq vs l k h)

-- ---- stores
-- a run of stores leaves a place before it, or behind it, alone
pub byte_sets : (l : List ℕ) (i : ℕ) (vs : List ℕ) (k : ℕ) → (k < i) ⊎ (i + length vs ≤ k) → byte (sets l i vs) k ≡ byte l k
byte_sets l i [] k h = refl
byte_sets l i (v ∷ vs) k (inl h) = byte_sets (set l i v) (suc i) vs k (inl (omega arith)) ∙ get_or-set_other l i k v 0 (λ e. omega arith)
byte_sets l i (v ∷ vs) k (inr h) = byte_sets (set l i v) (suc i) vs k (inr (omega arith)) ∙ get_or-set_other l i k v 0 (λ e. omega arith)

-- one store more, behind a run of them
pub sets_snoc : (l : List ℕ) (i : ℕ) (vs : List ℕ) (v : ℕ) → sets l i (vs ++ (v ∷ [])) ≡ set (sets l i vs) (i + length vs) v
sets_snoc l i [] v = ap (λ (n : ℕ). set l n v) (sym (add-zero i))
sets_snoc l i (w ∷ vs) v = sets_snoc (set l i w) (suc i) vs v ∙ ap (λ (n : ℕ). set (sets (set l i w) (suc i) vs) n v) (omega arith)

-- ---- parts
-- what is left of the first k behind the first s
pub drop_take : (s k : ℕ) (l : List ℕ) → s ≤ k → k ≤ length l → drop s (take k l) ≡ take (k - s) (drop s l)
drop_take s k l h w = sym (between_is l s k)

-- ---- the same bytes
and_is : (a b : Bool) → (a && b) ≡ a and b
unfolding ◌and◌
and_is true b = refl
and_is false b = refl

-- the library's test of two lists of numbers
pub same_pointwise : (a b : List ℕ) → pointwise eqb a b ≡ same a b
unfolding same
same_pointwise [] [] = refl
same_pointwise [] (y ∷ b) = refl
same_pointwise (x ∷ a) [] = refl
same_pointwise (x ∷ a) (y ∷ b) = and_is (eqb x y) (pointwise eqb a b) ∙ ap (λ (t : Bool). x is y and t) (same_pointwise a b)

pub same_eq : (a b : List ℕ) → same a b ≡ true → a ≡ b
unfolding same
same_eq [] [] e = refl
same_eq [] (y ∷ b) e = absurd (mathlib.Core.Bool.false≢true e)
same_eq (x ∷ a) [] e = absurd (mathlib.Core.Bool.false≢true e)
same_eq (x ∷ a) (y ∷ b) e =
    let p : x ≡ y = eqb-true x y (and_true _ _ e).0 in
    let q : a ≡ b = same_eq a b (and_true _ _ e).1 in
    cc

pub same_self : (a : List ℕ) → same a a ≡ true
unfolding same
same_self [] = refl
same_self (x ∷ a) = sym (and_holds (eq-eqb x x refl) (sym (same_self a)))

pub same_of : {a b : List ℕ} → a ≡ b → same a b ≡ true
same_of {a} e = subst (λ (l : List ℕ). same a l ≡ true) e (same_self a)

-- ---- bytes that are 00h
-- one more, and none left
pub blank_step : (l : List ℕ) (i j : ℕ) → j ≡ i + 1 → i < length l → blank (drop i l) ≡ (byte l i is 0 and blank (drop j l))
unfolding blank
blank_step l i j e h = rw (drop-cons l i 0 h, e, add-one i)

pub blank_end : (l : List ℕ) (i : ℕ) → length l ≤ i → blank (drop i l) ≡ true
unfolding blank
blank_end l i h = rw (drop_of_length-le l {i = i} h)

-- from a place on they are 00h where each of them is
blank_all : (l : List ℕ) → blank l ≡ true → (k : ℕ) → byte l k ≡ 0
unfolding blank
blank_all [] e k = refl
blank_all (x ∷ l) e zero = eqb-true x 0 (and_true _ _ e).0
blank_all (x ∷ l) e (suc k) = blank_all l (and_true _ _ e).1 k

all_blank : (l : List ℕ) → ((k : ℕ) → byte l k ≡ 0) → blank l ≡ true
unfolding blank
all_blank [] h = refl
all_blank (x ∷ l) h = both (eq-eqb x 0 (h 0)) (all_blank l (λ k. h (suc k)))

pub blank_byte : (l : List ℕ) (i k : ℕ) → blank (drop i l) ≡ true → i ≤ k → byte l k ≡ 0
blank_byte l i k e h = let q : k ≡ i + (k - i) = omega arith in ap (byte l) q ∙ sym (get_or-drop i l (k - i) 0) ∙ blank_all (drop i l) e (k - i)

pub byte_blank : (l : List ℕ) (i : ℕ) → ((k : ℕ) → i ≤ k → byte l k ≡ 0) → blank (drop i l) ≡ true
byte_blank l i h = all_blank (drop i l) (λ k. get_or-drop i l k 0 ∙ h (i + k) (omega arith))

-- ---- lengths
pub empty_list : (l : List ℕ) → length l ≡ 0 → l ≡ []
empty_list l e = nil_from_length l e

-- a list cut to no more than it has is cut the same
pub take_min : (n m : ℕ) (l : List ℕ) → length l ≡ m → take (min n m) l ≡ take n l
take_min n m l e = ap (λ (k : ℕ). take (min n k) l) (sym e) ∙ Rattle.std.proofs.lemmas.List.take_min n l

-- ---- the first four bytes
pub first_four : (l : List ℕ) → 4 ≤ length l → take 4 l ≡ byte l 0 ∷ byte l 1 ∷ byte l 2 ∷ byte l 3 ∷ []
first_four [] h = absurd (omega arith)
first_four (a ∷ []) h = absurd (omega arith)
first_four (a ∷ b ∷ []) h = absurd (omega arith)
first_four (a ∷ b ∷ c ∷ []) h = absurd (omega arith)
first_four (a ∷ b ∷ c ∷ d ∷ l) h = refl

-- ---- numbers in bytes
pub four_fits : (l : List ℕ) (k : ℕ) → ((i : ℕ) → byte l i < 256) → four_at l k < 4294967296
unfolding four_at
four_fits l k h = omega (arith, h k, h (k + 1), h (k + 2), h (k + 3))

-- it is the largest where every byte is FFh
pub four_full : (l : List ℕ) (k : ℕ) → ((i : ℕ) → byte l i < 256) → four_at l k ≡ 4294967295 → (j : ℕ) → j < 4 → byte l (k + j) ≡ 255
unfolding four_at
four_full l k h e zero b = ap (byte l) (add-zero k) ∙ omega (arith, e, h k, h (k + 1), h (k + 2), h (k + 3))
four_full l k h e (suc zero) b = omega (arith, e, h k, h (k + 1), h (k + 2), h (k + 3))
four_full l k h e (suc (suc zero)) b = omega (arith, e, h k, h (k + 1), h (k + 2), h (k + 3))
four_full l k h e (suc (suc (suc zero))) b = omega (arith, e, h k, h (k + 1), h (k + 2), h (k + 3))
four_full l k h e (suc (suc (suc (suc j)))) b = absurd (omega arith)

-- a sum is 0 where both its parts are
pub sum_zero : (n a b : ℕ) (t : Bool) → 0 < n → (a is 0 and b is 0 and t) ≡ ((a + n * b) is 0 and t)
unfolding ◌and◌
sum_zero n zero zero t h = and_holds (eq-eqb (0 + n * 0) 0 (omega arith)) refl
sum_zero n zero (suc b) t h = sym (and_fails t (ne_eqb (suc b) 0 (λ e. omega arith))) ∙ and_fails t (ne_eqb (0 + n * suc b) 0 (λ e. omega (arith, mul-suc n b)))
sum_zero n (suc a) b t h = sym (and_fails (b is 0 and t) (ne_eqb (suc a) 0 (λ e. omega arith))) ∙ and_fails t (ne_eqb (suc a + n * b) 0 (λ e. omega arith))

-- the number in four bytes is 0 where every byte is
pub blank_four : (l : List ℕ) (k : ℕ) → k + 4 ≤ length l → blank (drop k l) ≡ (four_at l k is 0 and blank (drop (k + 4) l))
unfolding four_at
blank_four l k h =
    let a = byte l k in
    let b = byte l (k + 1) in
    let c = byte l (k + 2) in
    let d = byte l (k + 3) in
    let t = blank (drop (k + 4) l) in
    blank_step l k (k + 1) refl (omega arith)
    ∙ ap (λ (x : Bool). a is 0 and x) (blank_step l (k + 1) (k + 2) (omega arith) (omega arith))
    ∙ ap (λ (x : Bool). a is 0 and b is 0 and x) (blank_step l (k + 2) (k + 3) (omega arith) (omega arith))
    ∙ ap (λ (x : Bool). a is 0 and b is 0 and c is 0 and x) (blank_step l (k + 3) (k + 4) (omega arith) (omega arith))
    ∙ sum_zero 256 a b (c is 0 and d is 0 and t) (omega arith)
    ∙ sum_zero 65536 (a + 256 * b) c (d is 0 and t) (omega arith)
    ∙ sum_zero 16777216 (a + 256 * b + 65536 * c) d t (omega arith)

-- and so is a number in the last n bytes
pub zero_last : (l : List ℕ) (k n m : ℕ) → blank (drop k l) ≡ (m is 0 and blank (drop (k + n) l)) → length l ≤ k + n → m is 0 ≡ blank (drop k l)
zero_last l k n m e h = sym (e ∙ ap (λ (t : Bool). m is 0 and t) (blank_end l (k + n) h) ∙ and_end (m is 0))

-- ---- numbers
-- the next number has the next remainder, unless it is a multiple
pub mod_next : (x m : ℕ) → x % m + 1 < m → (x + 1) % m ≡ x % m + 1
mod_next x m h = sym (mod-add-mod x m 1) ∙ mod-eq_of_lt h

-- the same four numbers give the same
pub same_four : {A : Type 0} {x x' y y' z z' w w' : ℕ} → x ≡ x' → y ≡ y' → z ≡ z' → w ≡ w' → (g : ℕ → ℕ → ℕ → ℕ → A) → g x y z w ≡ g x' y' z' w'
same_four p q r s g = cc
