-- Laws of the input: the unused bytes slide to the front, what is read stands behind them, and a reading that wants more leaves room for it.
use mathlib.Core.Path.{◌≡◌, sym, ap, ◌∙◌, subst}
use mathlib.Core.Bool.{true, false, false≢true}
use mathlib.Core.List.{List, [], ◌++◌, append-nil, append_assoc}
use Prim.Native.Nat.{ℕ, ◌+◌, ◌-◌, ◌≤◌, ◌<◌}
use native.Mathlib.Omega.{arith}
use lib.ListN.{length, take, drop, length-drop}
use lib.Seq.{length-take-le, take-take, take-add, drop-drop, drop-append_seam}
use Rattle.std.specs.Prelude.{Ok, Err}
use Rattle.std.specs.declared.option.Option.{Option}
use Rattle.std.specs.Io.KnownBytes.{Consumes}
use Rattle.std.proofs.KnownBytes.{Consumes-nil, Consumes-trans}
use Rattle.std.proofs.lemmas.List.{drop_all, drop-append-le, length-append}
use Rattle.words.specs.Bounds.{longest_record}
use Rattle.words.specs.Bytes.{over}
use Rattle.words.proofs.Lists.{front_laid, drop_take}
use Rattle.records.specs.declared.Record.{Record}
use Rattle.records.specs.declared.Stop.TheVariants.{Cut, Bad, End}
use Rattle.records.specs.Records.{Found, record_at}
use Rattle.records.proofs.RecordLaws.{Fewer, record_short, whole_within}
use Rattle.input.specs.Input.{part, wants, behind, Grows, Brings}
use Rattle.input.specs.declared.Brought.{Brought}

-- ---- what is unused
pub grows_none : (l : List ℕ) → Grows l l
grows_none l = record { came = []; grown = sym (append-nil l) }

pub grows_more : {a b c : List ℕ} → Grows a b → Grows b c → Grows a c
grows_more {a} f g = record { came = f.came ++ g.came; grown = g.grown ∙ ap (λ (t : List ℕ). t ++ g.came) f.grown ∙ append_assoc a f.came g.came }

length_part : (at end : ℕ) (l : List ℕ) → end ≤ length l → length (part l at end) ≡ end - at
length_part at end l w = length-take-le (end - at) (drop at l) (omega (arith, length-drop at l))

front_part : (n : ℕ) (l : List ℕ) → part l 0 n ≡ take n l
front_part n l =
    let e : n - 0 ≡ n = omega arith in
    ap (λ (k : ℕ). take k l) e

-- a part of the buffer slid to its front, and a read behind it
module _ (at end : ℕ) (l read : List ℕ) {slid : List ℕ} (w : end ≤ length l) (e : slid ≡ over (part l at end) l)
    (f : take (end - at) read ≡ take (end - at) slid) where
  pub same_part : part l at end ≡ part read 0 (end - at)
  same_part = sym (front_part (end - at) read ∙ f ∙ front_laid l (sym (length_part at end l w)) e)

  pub more_is : (got : ℕ) → part read 0 (end - at + got) ≡ part l at end ++ take got (drop (end - at) read)
  more_is got =
      front_part (end - at + got) read ∙ take-add (end - at) got read
      ∙ ap (λ (t : List ℕ). t ++ take got (drop (end - at) read)) (sym (front_part (end - at) read) ∙ sym same_part)

  pub more_part : (got : ℕ) → Grows (part l at end) (part read 0 (end - at + got))
  more_part got = record { came = take got (drop (end - at) read); grown = more_is got }

-- ---- what is taken from the reader
-- nothing yet
pub taken_none : (a : Option (List ℕ)) (at end : ℕ) (l : List ℕ) → end ≤ length l → Consumes a a (drop (end - at) (part l at end))
taken_none a at end l w = rw (drop_all (end - at) (part l at end) (omega (arith, length_part at end l w))) (Consumes-nil a)

-- more, behind the unused bytes, which are as many as those of the start and more
pub taken_more : (a b c : Option (List ℕ)) (at end : ℕ) (l more : List ℕ) {u u' : List ℕ} → end ≤ length l → Grows (part l at end) u
    → u' ≡ u ++ more → Consumes a b (drop (end - at) u) → Consumes b c more → Consumes a c (drop (end - at) u')
taken_more a b c at end l more {u} {u'} w g e p q =
    let n : ℕ = end - at in
    let k : n ≤ length u = omega (arith, ap length g.grown, length-append (part l at end) g.came, length_part at end l w) in
    subst (Consumes a c) (sym (ap (drop n) e ∙ drop-append-le n u more k)) (Consumes-trans a b c (drop n u) more p q)

-- what came, of bytes that are brought
pub behind_came : {input left : List ℕ} {at end : ℕ} {r : Brought} (p : Brings input at end left r) → end ≤ length input
    → behind at end left r ≡ p.unused.came
behind_came {input} {at = at} {end} p w =
    ap (drop (end - at)) p.unused.grown ∙ ap (λ (n : ℕ). drop n (part input at end ++ p.unused.came)) (sym (length_part at end input w))
    ∙ drop-append_seam (part input at end) p.unused.came

-- ---- a reading that wants more
short_by : (l : List ℕ) (r : Found) → Fewer l 0 r → wants r ≡ true → length l < longest_record
short_by l (Ok r) s e = absurd (false≢true e)
short_by l (Err Cut) s e = omega arith
short_by l (Err Bad) s e = absurd (false≢true e)
short_by l (Err End) s e = omega arith

-- is not of bytes that settle it
pub unsettled : (u v : List ℕ) {r : Found} → r ≡ record_at u 0 → wants r ≡ true → u ≡ v → wants (record_at v 0) ≡ false → ⊥
unsettled u v e m p h = cc

-- leaves room in a buffer that holds the longest record
pub wants_room : (at end : ℕ) (l : List ℕ) {r : Found} → end ≤ length l → r ≡ record_at (part l at end) 0 → wants r ≡ true → end - at < longest_record
wants_room at end l {r} w e h =
    let u : List ℕ = part l at end in
    omega (arith, short_by u r (subst (Fewer u 0) (sym e) (record_short u 0)) h, length_part at end l w)

-- ---- a whole record that is brought
-- lies among the unused bytes
pub brought_whole : {input left : List ℕ} {at end : ℕ} {r : Brought} {w : Record} → Brings input at end left r
    → r.found ≡ Ok w → (w.start ≤ w.end) × (r.at + w.end ≤ r.end) × (r.end ≤ length left)
brought_whole {left = left} {r = r} b e =
    let w = whole_within (part left r.at r.end) 0 (sym b.reading ∙ e) in
    (w.ends, omega (arith, w.held, length_part r.at r.end left b.within, b.ordered), b.within)

-- ---- parts of a part
-- the body of a record, and what is behind it
module _ (l : List ℕ) (at end start next : ℕ) (s : start ≤ next) (n : at + next ≤ end) (w : end ≤ length l) where
  part_drop : (k : ℕ) → k ≤ next → drop k (part l at end) ≡ take (end - at - k) (drop (at + k) l)
  part_drop k h = drop_take k (end - at) (drop at l) (omega arith) (omega (arith, length-drop at l)) ∙ ap (take (end - at - k)) (drop-drop k at l)

  pub part_inner : part l (at + start) (at + next) ≡ take (next - start) (drop start (part l at end))
  part_inner =
      let e : at + next - (at + start) ≡ next - start = omega arith in
      let m : List ℕ = drop (at + start) l in
      ap (λ (k : ℕ). take k m) e ∙ sym (ap (take (next - start)) (part_drop start s) ∙ take-take (next - start) (end - at - start) m (omega arith))

  pub part_behind : part l (at + next) end ≡ drop next (part l at end)
  part_behind =
      let e : end - (at + next) ≡ end - at - next = omega arith in
      ap (λ (k : ℕ). take k (drop (at + next) l)) e ∙ sym (part_drop next (omega arith))
