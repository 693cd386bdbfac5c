-- Laws of records: a whole one lies in the slice, a cut one is shorter than the longest, and what comes behind a whole one does not change it.
use mathlib.Core.Path.{◌≡◌, refl, ap, ap₂, ◌∙◌, subst}
use mathlib.Core.List.{List, ◌++◌}
use Prim.Native.Nat.{ℕ, ◌+◌, ◌-◌, ◌*◌, ◌≤◌, ◌<◌}
use native.Mathlib.Omega.{arith}
use lib.ListN.{length, length-append, get_or-append}
use lib.Dec.{ltb, leb}
use borrow.Author.Tests.{ltb-true, ltb-false, leb-true, le-ltb, lt-leb}
use Rattle.words.specs.Bounds.{largest_held, longest_record}
use Rattle.words.proofs.Choices.{first, rest, either}
use Rattle.records.specs.declared.Mark.{Mark}
use Rattle.std.specs.declared.option.Option.{Option}
use Rattle.std.specs.Prelude.{None, Some, Ok, Err}
use Rattle.records.specs.declared.Record.{Record}
use Rattle.records.specs.declared.Stop.TheVariants.{Cut, Bad, End}
use Rattle.records.specs.Records.{Found, mark_of, most, length_at, word_at, body_at, record_at}

-- where the body of a record at a place lies: behind the header, within the slice, and no longer than its mark allows
pub record Within (l : List ℕ) (at : ℕ) (r : Record) : Type 0 where
  pub starts : r.start ≡ at + 4
  pub ends : r.start ≤ r.end
  pub held : r.end ≤ length l
  pub short : r.end - r.start ≤ most r.mark

-- a reading that is whole lies so; of the others there is nothing to say
abbrev pub Lies : List ℕ → ℕ → Found → Type 0
Lies l at (Ok r) = Within l at r
Lies l at (Err stop) = Unit {0}

body_lies : (k : Option Mark) (l : List ℕ) (at : ℕ) → 4 ≤ length l - at → Lies l at (body_at k l at)
unfolding body_at
body_lies (Some mark) l at h =
    either (Lies l at) (ltb (most mark) (length_at l at)) (λ e. tt) (λ e.
    either (Lies l at) (ltb (length l - (at + 4)) (length_at l at)) (λ f. tt) (λ f.
    let p : length_at l at ≤ most mark = ltb-false _ _ e in
    let q : length_at l at ≤ length l - (at + 4) = ltb-false _ _ f in
    record { starts = refl; ends = omega arith; held = omega arith; short = omega arith }))
body_lies None l at h = tt

record_lies : (l : List ℕ) (at : ℕ) → Lies l at (record_at l at)
unfolding record_at
record_lies l at =
    either (Lies l at) (leb (length l) at) (λ e. tt) (λ e.
    either (Lies l at) (ltb (length l - at) 4) (λ f. tt) (λ f.
    body_lies (mark_of (word_at l at)) l at (ltb-false _ _ f)))

-- what a caller uses: the reading was a whole record
pub whole_within : (l : List ℕ) (at : ℕ) {r : Record} → record_at l at ≡ Ok r → Within l at r
whole_within l at e = subst (Lies l at) e (record_lies l at)

-- ---- room for more
-- a record that is cut has fewer bytes than the longest whole one, 4 and 32,769, and at the end there is none
abbrev pub Fewer : List ℕ → ℕ → Found → Type 0
Fewer l at (Ok r) = Unit {0}
Fewer l at (Err Cut) = length l - at < longest_record
Fewer l at (Err Bad) = Unit {0}
Fewer l at (Err End) = length l ≤ at

most_bytes : (mark : Mark) → most mark ≤ 1 + largest_held
most_bytes Mark.Insert = omega arith
most_bytes Mark.Remove = omega arith
most_bytes Mark.Message = omega arith

body_short : (k : Option Mark) (l : List ℕ) (at : ℕ) → Fewer l at (body_at k l at)
unfolding body_at
body_short (Some mark) l at =
    either (Fewer l at) (ltb (most mark) (length_at l at)) (λ e. tt) (λ e.
    either (Fewer l at) (ltb (length l - (at + 4)) (length_at l at)) (λ f.
    let p : length_at l at ≤ most mark = ltb-false _ _ e in
    let q : length l - (at + 4) < length_at l at = ltb-true _ _ f in
    omega (arith, p, q, most_bytes mark)) (λ f. tt))
body_short None l at = tt

pub record_short : (l : List ℕ) (at : ℕ) → Fewer l at (record_at l at)
unfolding record_at
record_short l at =
    either (Fewer l at) (leb (length l) at) (λ e. leb-true _ _ e) (λ e.
    either (Fewer l at) (ltb (length l - at) 4) (λ f.
    let p : length l - at < 4 = ltb-true _ _ f in
    omega arith) (λ f.
    body_short (mark_of (word_at l at)) l at))

-- ---- more input
-- a reading that is whole or bad does not depend on what comes behind
abbrev pub Stays : List ℕ → ℕ → Found → Type 0
Stays l at (Ok r) = record_at l at ≡ Ok r
Stays l at (Err Cut) = Unit {0}
Stays l at (Err Bad) = record_at l at ≡ Err Bad
Stays l at (Err End) = Unit {0}

same_length_at : (l more : List ℕ) (at : ℕ) → 4 ≤ length l - at → length_at (l ++ more) at ≡ length_at l at
same_length_at l more at h =
    ap₂ (λ (a b : ℕ). a + 256 * b) (get_or-append l more 0 (at + 2) (omega arith)) (get_or-append l more 0 (at + 3) (omega arith))

same_word_at : (l more : List ℕ) (at : ℕ) → 4 ≤ length l - at → word_at (l ++ more) at ≡ word_at l at
same_word_at l more at h = ap₂ (λ (a b : ℕ). 256 * a + b) (get_or-append l more 0 at (omega arith)) (get_or-append l more 0 (at + 1) (omega arith))

body_stays : (k : Option Mark) (l more : List ℕ) (at : ℕ) → 4 ≤ length l - at → record_at (l ++ more) at ≡ body_at k (l ++ more) at → Stays (l ++ more) at (body_at k l at)
unfolding body_at
body_stays (Some mark) l more at h r =
    let n = same_length_at l more at h in
    either (Stays (l ++ more) at) (ltb (most mark) (length_at l at)) (λ e. r ∙ first _ _ (ap (ltb (most mark)) n ∙ e)) (λ e.
    either (Stays (l ++ more) at) (ltb (length l - (at + 4)) (length_at l at)) (λ f. tt) (λ f.
    let g : length_at l at ≤ length l - (at + 4) = ltb-false _ _ f in
    let q : length_at (l ++ more) at ≤ length (l ++ more) - (at + 4) = omega (arith, g, n, length-append l more) in
    r ∙ rest _ _ (ap (ltb (most mark)) n ∙ e) ∙ rest _ _ (le-ltb _ _ q) ∙ ap (λ (m : ℕ). Ok (record { mark = mark; start = at + 4; end = at + 4 + m })) n))
body_stays None l more at h r = r

pub record_stays : (l more : List ℕ) (at : ℕ) → Stays (l ++ more) at (record_at l at)
unfolding record_at
record_stays l more at =
    either (Stays (l ++ more) at) (leb (length l) at) (λ e. tt) (λ e.
    either (Stays (l ++ more) at) (ltb (length l - at) 4) (λ f. tt) (λ f.
    let h : 4 ≤ length l - at = ltb-false _ _ f in
    let a : at < length (l ++ more) = omega (arith, h, length-append l more) in
    let b : 4 ≤ length (l ++ more) - at = omega (arith, h, length-append l more) in
    body_stays (mark_of (word_at l at)) l more at h
    (rest _ _ (lt-leb _ _ a) ∙ rest _ _ (le-ltb _ 4 b) ∙ ap (λ (w : ℕ). body_at (mark_of w) (l ++ more) at) (same_word_at l more at h))))
