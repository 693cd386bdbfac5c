-- Laws of what is printed: it does not depend on the bound, and it goes on by the record that stands first, whatever comes behind it.
use mathlib.Core.Path.{◌≡◌, refl, ap, ap₂, ◌∙◌, subst}
use mathlib.Core.Bool.{false, true≢false}
use mathlib.Core.List.{List, [], ◌∷◌, ◌++◌, append-nil}
use Prim.Native.Nat.{ℕ, zero, suc, ◌-◌, ◌≤◌, ◌<◌}
use native.Mathlib.Omega.{arith}
use lib.ListN.{length, take, drop, length-drop}
use lib.Seq.{take-append-le, drop-append-le}
use Rattle.words.specs.Choice.{◌⇒◌⁏◌}
use Rattle.slot.specs.declared.Slot.{Slot}
use Rattle.std.specs.Prelude.{Ok, Err}
use Rattle.records.specs.declared.Record.{Record}
use Rattle.records.specs.declared.Stop.TheVariants.{Cut, Bad, End}
use Rattle.records.specs.Records.{Found, record_at}
use Rattle.records.proofs.RecordLaws.{Stays, whole_within, record_stays}
use Rattle.printed.specs.Printed.{comes_of, line_of, whole, parting, Unread, next, printing, prints}

-- where what is printed after the first record is the same, so is the whole: that record has at least four bytes
next_alike : (f g : List ℕ → Slot → List ℕ → List ℕ) (left : List ℕ) (s : Slot) (image : List ℕ)
    → ((l : List ℕ) (t : Slot) (i : List ℕ) → length l < length left → f l t i ≡ g l t i) → (r : Found) → record_at left 0 ≡ r
    → next f r left s image ≡ next g r left s image
next_alike f g left s image h (Ok r) e =
    let w = whole_within left 0 e in
    let o = comes_of r.mark (take (r.end - r.start) (drop r.start left)) s image in
    ap (λ (t : List ℕ). line_of r.mark o ++ t) (h (drop r.end left) o.slot o.image (omega (arith, w.starts, w.ends, w.held, length-drop r.end left)))
next_alike f g left s image h (Err stop) e = refl

-- any bound is enough that is no less than the bytes that are left
pub enough : (n m : ℕ) (left : List ℕ) (s : Slot) (image : List ℕ) → length left ≤ n → length left ≤ m → printing n left s image ≡ printing m left s image
unfolding parting printing record_at ◌⇒◌⁏◌
enough zero zero left s image h k = refl
enough zero (suc m) [] s image h k = refl
enough zero (suc m) (x ∷ left) s image h k = absurd (omega arith)
enough (suc n) zero [] s image h k = refl
enough (suc n) zero (x ∷ left) s image h k = absurd (omega arith)
enough (suc n) (suc m) left s image h k =
    next_alike (printing n) (printing m) left s image (λ l t i b. enough n m l t i (omega arith) (omega arith)) (record_at left 0) refl

-- so what is printed goes by the record that stands first, and is then what is printed of what is left
pub prints_next : (left : List ℕ) (s : Slot) (image : List ℕ) → prints left s image ≡ next prints (record_at left 0) left s image
unfolding parting printing record_at ◌⇒◌⁏◌
prints_next [] s image = refl
prints_next (x ∷ left) s image =
    let n : ℕ = length left in
    next_alike (printing n) prints (x ∷ left) s image (λ l t i b. enough n (length l) l t i (omega arith) (omega arith)) (record_at (x ∷ left) 0) refl

prints_by : (left : List ℕ) {r : Found} (s : Slot) (image : List ℕ) → record_at left 0 ≡ r → prints left s image ≡ next prints r left s image
prints_by left s image e = prints_next left s image ∙ ap (λ (r : Found). next prints r left s image) e

-- ---- the input as it comes: b has come, and more comes behind it
-- a whole record: its line is the next of what is printed, whatever comes behind it
pub whole_prints : (b more : List ℕ) (s : Slot) (image : List ℕ) {r : Record} → record_at b 0 ≡ Ok r
    → prints (b ++ more) s image ≡ next (λ (left : List ℕ). prints (left ++ more)) (Ok r) b s image
whole_prints b more s image {r} e =
    let w = whole_within b 0 e in
    let n : ℕ = r.end - r.start in
    let stays = subst (Stays (b ++ more) 0) e (record_stays b more 0) in
    let from : drop r.start (b ++ more) ≡ drop r.start b ++ more = drop-append-le r.start b more (omega (arith, w.ends, w.held)) in
    let body : take n (drop r.start (b ++ more)) ≡ take n (drop r.start b) =
    ap (take n) from ∙ take-append-le n (drop r.start b) more (omega (arith, w.held, length-drop r.start b)) in
    prints_by (b ++ more) s image stays
    ∙ ap₂ (λ (x l : List ℕ). let o = comes_of r.mark x s image in line_of r.mark o ++ prints l o.slot o.image) body (drop-append-le r.end b more w.held)

-- another reading: what is printed where the session stops, whatever stands unread behind a record that is bad
pub stop_prints : (b unread : List ℕ) (s : Slot) (image : List ℕ) (r : Found) → record_at b 0 ≡ r → whole r ≡ false → Unread r unread
    → prints (b ++ unread) s image ≡ parting r
stop_prints b unread s image (Ok r) e h u = absurd (true≢false h)
stop_prints b unread s image (Err Cut) e h u = ap (λ (l : List ℕ). prints (b ++ l) s image) u ∙ ap (λ (l : List ℕ). prints l s image) (append-nil b) ∙ prints_by b s image e
stop_prints b unread s image (Err Bad) e h u = prints_by (b ++ unread) s image (subst (Stays (b ++ unread) 0) e (record_stays b unread 0))
stop_prints b unread s image (Err End) e h u = ap (λ (l : List ℕ). prints (b ++ l) s image) u ∙ ap (λ (l : List ℕ). prints l s image) (append-nil b) ∙ prints_by b s image e
