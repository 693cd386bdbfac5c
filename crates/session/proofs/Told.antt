-- What a session hands over is `printed` of what it was sent: the contracts of `bring`, `turn` and `leave` put together, however the input
-- comes in pieces.
use Prim.Native.Nat.{ℕ, ◌+◌, ◌-◌, ◌≤◌}
use mathlib.Core.Path.{◌≡◌, refl, sym, ap, ap₂, ◌∙◌, subst}
use mathlib.Core.Bool.{true, false, true≢false}
use mathlib.Core.List.{List, [], ◌++◌, append_assoc}
use lib.ListN.{length, take, drop}
use Rattle.std.specs.declared.option.Option.{Option}
use Rattle.std.specs.Prelude.{None, Some, Ok, Err, IfSome}
use Rattle.std.specs.Io.KnownBytes.{Consumes, Appends, IsAtEnd}
use Rattle.std.proofs.KnownBytes.{Consumes-nil, Consumes-trans, Appends-nil, Appends-trans}
use Rattle.slot.specs.declared.Slot.{Slot}
use Rattle.slot.specs.Slots.{removed}
use Rattle.records.specs.declared.Record.{Record}
use Rattle.records.specs.declared.Stop.TheVariants.{Cut, Bad, End}
use Rattle.records.specs.Records.{Found, record_at}
use Rattle.sitting.specs.declared.Held.{Held}
use Rattle.lines.specs.Lines.{Puts}
use Rattle.lines.proofs.LineLaws.{puts_front}
use Rattle.input.specs.declared.Brought.{Brought}
use Rattle.input.specs.Input.{part, wants, behind, Brings}
use Rattle.input.proofs.InputLaws.{behind_came, brought_whole, part_inner, part_behind}
use Rattle.printed.specs.declared.Turned.{Turned}
use Rattle.printed.specs.Turns.{Turns}
use Rattle.printed.specs.Printed.{comes_of, line_of, whole, parting, Unread, prints, printed}
use Rattle.printed.proofs.Printing.{whole_prints, stop_prints}
use Rattle.printed.proofs.TurnLaws.{turned_image, turned_line}
use Rattle.session.specs.Courses.{Course, turns, stops, Ran, Passed, Since, Between}

-- a whole record among the unused bytes u: its line, and what is printed of what is left
step : (u came : List ℕ) (s : Slot) (image : List ℕ) {r : Record} {body line rest left i : List ℕ} {t : Slot}
    → record_at u 0 ≡ Ok r → body ≡ take (r.end - r.start) (drop r.start u) → left ≡ drop r.end u
    → line ≡ line_of r.mark (comes_of r.mark body s image) → t ≡ (comes_of r.mark body s image).slot → i ≡ (comes_of r.mark body s image).image
    → rest ≡ prints (left ++ came) t i → line ++ rest ≡ prints (u ++ came) s image
step u came s image {r} e b l p q i h =
    let w = whole_prints u came s image e in
    let x = ap (λ (y : List ℕ). let o = comes_of r.mark y s image in line_of r.mark o ++ prints (drop r.end u ++ came) o.slot o.image) b in
    cc

-- what comes in stands behind what was unused
grown : {input left : List ℕ} {at end : ℕ} {b : Brought} (p : Brings input at end left b) (came : List ℕ)
    → part left b.at b.end ++ came ≡ part input at end ++ (p.unused.came ++ came)
grown {input} {at = at} {end} p came = ap (λ (l : List ℕ). l ++ came) p.unused.grown ∙ append_assoc (part input at end) p.unused.came came

pub told : {input image came handed : List ℕ} {at end : ℕ} {h : Held} → Course input at end h image came handed
    → handed ≡ prints (part input at end ++ came) h.slot (take h.size image)
told (turns {left = left} {image = image} {came = came} {r = r} {h = h} {b = b} p e t c) =
    let w = brought_whole p e in
    let u : List ℕ = part left b.at b.end in
    let body = part_inner left b.at b.end r.start r.end w.0 w.1 w.2 in
    let rest = part_behind left b.at b.end r.start r.end w.0 w.1 w.2 in
    step u came h.slot (take h.size image) (sym p.reading ∙ e) body rest (turned_line t) t.slot (turned_image t) (told c)
    ∙ ap (λ (l : List ℕ). prints l h.slot (take h.size image)) (grown p came)
told (stops {left = left} {image = image} {h = h} {b = b} unread p o u q) =
    puts_front q
    ∙ sym (stop_prints (part left b.at b.end) unread h.slot (take h.size image) b.found (sym p.reading) o u)
    ∙ ap (λ (l : List ℕ). prints l h.slot (take h.size image)) (grown p unread)

-- from the start: nothing has come, the slot is empty and no image is held
pub whole_session : {input image came handed : List ℕ} {h : Held} → h.slot ≡ removed → h.size ≡ 0
    → Course input 0 0 h image came handed → handed ≡ printed came
unfolding printed
whole_session {image = image} {came} s n c = told c ∙ ap₂ (λ (t : Slot) (k : ℕ). prints came t (take k image)) s n

pub ran_prints : {input image : List ℕ} (r : Ran input image) (unread : List ℕ) → Unread r.last unread → r.handed ≡ printed (r.came ++ unread)
ran_prints r unread u = whole_session r.empty r.none (r.course unread u)

-- ---- the loop
pub since_start : (input : List ℕ) (h : Held) (image : List ℕ) → Since input h image input 0 0 h image
since_start input h image = record { came = []; handed = []; goes = λ c d k. k }

-- one turn more
pub since_turn : {input image input' left image' kept was holds blank told : List ℕ} {at end : ℕ} {r : Record} {h h' : Held}
    {b : Brought} {t : Turned} → Since input h image input' at end h' image' → Brings input' at end left b → b.found ≡ Ok r
    → Turns r.mark (comes_of r.mark (part left (b.at + r.start) (b.at + r.end)) h'.slot (take h'.size image')) t image' kept was holds blank told
    → Since input h image left (b.at + r.end) b.end t.held kept
since_turn {told = told} {t = t} s p e q =
    let line : List ℕ = take t.len told in
    record {
      came = s.came ++ p.unused.came;
      handed = s.handed ++ line;
      goes = λ c d k. rw (append_assoc s.came, append_assoc s.handed) (s.goes (p.unused.came ++ c) (line ++ d) (turns p e q k));
    }

-- and the last: a reading that is not of a whole record
pub not_whole : (r : Found) → ((x : Record) → r ≡ Ok x → ⊥) → whole r ≡ false
not_whole (Ok x) k = absurd (k x refl)
not_whole (Err stop) k = refl

pub since_end : {input image input' left image' blank told : List ℕ} {at end n : ℕ} {h h' : Held} {b : Brought} → h.slot ≡ removed → h.size ≡ 0
    → Since input h image input' at end h' image' → Brings input' at end left b → whole b.found ≡ false → Puts (parting b.found) n blank told
    → Ran input image
since_end {told = told} {n = n} {h = h} {b = b} e z s p o q = record {
  held = h;
  empty = e;
  none = z;
  last = b.found;
  came = s.came ++ p.unused.came;
  handed = s.handed ++ take n told;
  course = λ unread u. rw (append_assoc s.came) (s.goes (p.unused.came ++ unread) (take n told) (stops unread p o u q));
}

-- ---- between a reader and a writer
pub between_start : (a b : Option (List ℕ)) (input : List ℕ) (h : Held) (image : List ℕ) → Between a a b b input h image input 0 0 h image
unfolding since_start
between_start a b input h image = record { since = since_start input h image; taken = Consumes-nil a; given = Appends-nil b }

-- what stands unread behind the reading that stops it: nothing, where the reader is at its end, or whatever is behind a bad record
left_unread : (last : Found) (ys : List ℕ) → whole last ≡ false → (wants last ≡ true → ys ≡ []) → Unread last ys
left_unread (Ok r) ys o f = absurd (true≢false o)
left_unread (Err Cut) ys o f = f refl
left_unread (Err Bad) ys o f = tt
left_unread (Err End) ys o f = f refl

-- so all that the reader had is what came and what stands unread
whole_input : (read read' written written' : Option (List ℕ)) (came handed : List ℕ) (last : Found) → whole last ≡ false → Consumes read read' came
    → Appends written written' handed → ((unread : List ℕ) → Unread last unread → handed ≡ printed (came ++ unread)) → (wants last ≡ true → IsAtEnd read')
    → IfSome read (λ (xs : List ℕ). Appends written written' (printed xs))
whole_input None read' written written' came handed last o t g p f = tt
whole_input (Some xs) None written written' came handed last o t g p f = absurd t
whole_input (Some xs) (Some ys) written written' came handed last o t g p f =
    subst (Appends written written') (p ys (left_unread last ys o f) ∙ ap printed (sym t)) g

-- what the reader had at the start, before and after a turn, and what the writer had
module _ (read read' read'' written written' written'' : Option (List ℕ)) {input image input' left image' : List ℕ} {at end : ℕ} {h h' : Held}
    {b : Brought} (s : Between read read' written written' input h image input' at end h' image') (w : end ≤ length input')
    (p : Brings input' at end left b) (x : Consumes read' read'' (behind at end left b)) where
  -- what was taken since the start
  taken_more : Consumes read read'' (s.since.came ++ p.unused.came)
  taken_more = Consumes-trans read read' read'' s.since.came p.unused.came s.taken (subst (Consumes read' read'') (behind_came p w) x)

  pub between_turn : {kept was holds blank told : List ℕ} {r : Record} {t : Turned} → b.found ≡ Ok r
      → Turns r.mark (comes_of r.mark (part left (b.at + r.start) (b.at + r.end)) h'.slot (take h'.size image')) t image' kept was holds blank told
      → Appends written' written'' (take t.len told) → Between read read'' written written'' input h image left (b.at + r.end) b.end t.held kept
  unfolding since_turn
  between_turn {told = told} {t = t} e q y = record {
    since = since_turn s.since p e q;
    taken = taken_more;
    given = Appends-trans written written' written'' s.since.handed (take t.len told) s.given y;
  }

  pub passed_end : {blank told : List ℕ} {n : ℕ} → h.slot ≡ removed → h.size ≡ 0 → whole b.found ≡ false → Puts (parting b.found) n blank told
      → Appends written' written'' (take n told) → Passed read read'' written written'' input image
  unfolding since_end
  passed_end {told = told} {n = n} e z o q y =
      let r = since_end e z s.since p o q in
      record {
        ran = r;
        taken = taken_more;
        given = Appends-trans written written' written'' s.since.handed (take n told) s.given y;
        prints = ran_prints r;
      }

  -- where the input came to its end, or to a bad record
  pub all_printed : {blank told : List ℕ} {n : ℕ} → h.slot ≡ removed → h.size ≡ 0 → whole b.found ≡ false → Puts (parting b.found) n blank told
      → Appends written' written'' (take n told) → (wants b.found ≡ true → IsAtEnd read'')
      → IfSome read (λ (xs : List ℕ). Appends written written'' (printed xs))
  unfolding since_end passed_end
  all_printed e z o q y f =
      let r = passed_end e z o q y in
      whole_input read read'' written written'' r.ran.came r.ran.handed b.found o r.taken r.given r.prints f
