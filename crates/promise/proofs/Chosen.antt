-- The reader page is the one that the last successful 01 named; before any, 8, or 32 from the first successful A4 of a type 02h card on: over runs
-- from the insertion on. Before any, a write to an I2C card of any size stores exactly the range that it names.
use Rattle.std.specs.Prelude.{Result, Ok, Err}
use Prim.Native.Nat.{ℕ, ◌+◌, ◌≤◌, ◌<◌}
use mathlib.Core.Path.{◌≡◌, refl, sym, ap, ap₂, ◌∙◌, subst⁻¹}
use mathlib.Core.Bool.{Bool, true, false, not, true≢false}
use mathlib.Core.List.{List, [], ◌∷◌, ◌++◌}
use native.Mathlib.Omega.{arith}
use lib.ListN.{length, take, drop}
use lib.Dec.{leb}
use lib.IntN.{pos}
use borrow.Author.Tests.{leb-true, ne_eqb}
use Rattle.std.specs.Prelude.{Option, Some}
use Rattle.words.specs.Choice.{◌⇒◌⁏◌, ◌and◌, ◌or◌, ◌means◌, ◌is◌, ◌isnt◌}
use Rattle.words.specs.Bytes.{byte, low_first}
use Rattle.words.specs.Bounds.{least_room}
use Rattle.words.proofs.Choices.{either, first, rest, and_true, and_fails, and_holds, means_true, same_choice, never, nested, or_end}
use Rattle.chips.specs.declared.Chip.{Chip}
use Rattle.chips.specs.declared.Facts.{Facts}
use Rattle.chips.specs.Kinds.{facts, chip_of}
use Rattle.chips.proofs.Each.{all_of, each}
use Rattle.slot.specs.declared.Slot.{Slot}
use Rattle.slot.specs.Slots.{page_for, page_after, removed}
use Rattle.record.specs.Raw.{raw_of}
use Rattle.record.proofs.Records.{flag_back}
use Rattle.steps.specs.declared.Status.{Status}
use Rattle.steps.specs.declared.Order.{Order}
use Rattle.steps.specs.Steps.{order, body}
use Rattle.orders.specs.Orders.{slot_by, performed, commanded}
use Rattle.faults.specs.declared.Request.{Request}
use Rattle.faults.specs.declared.Request.TheVariants.{SetParameters, PowerOn, PowerOff, SlotStatus, GetParameters, ResetParameters, Transfer, Unsupported}
use Rattle.faults.specs.Faults.{apdu}
use Rattle.frame.specs.Exchange.{Outcome, deed, insertion}
use Rattle.reader.specs.Runs.{Sent, Run, sending, run}
use Rattle.reader.specs.Heard.{requested, heard, transfers}
use Rattle.reader.proofs.Came.{Came, down, failed, obeyed, came}
use Rattle.reader.proofs.Kept.{exchange_holds}
use Rattle.calls.specs.Calls.{raw_insertion, Returns}
use Rattle.records.specs.declared.Mark.{Mark}
use Rattle.sitting.specs.declared.Held.{Held}
use Rattle.sitting.specs.declared.Done.{Done}
use Rattle.sitting.specs.Sittings.{outcome_of, Leaves}
use Rattle.promise.specs.Tries.{run_from}
use Rattle.promise.specs.Sequences.{Called, Sat}
use Rattle.promise.specs.Chosen.{Turn, none, selects, names, turn_by, turn_of, turns, selected, named, last_named, unnamed, page_since, Paging, page_shown, chosen_shown}
use Rattle.promise.specs.Stored.{Writes, sent_by}
use Rattle.promise.proofs.RunLaws.{run_holds}
use Rattle.promise.proofs.Paged.{message_range}
use Rattle.promise.proofs.Inserted.{put_in_slot, put_image}
use Rattle.promise.proofs.Sequences.{called_run, sat_run, call_inserts, record_accepted, held_card, held_slot}

-- ---- one message: what its turn makes of the page and of the flag
abbrev page_to : ℕ → Slot → Turn → ℕ
page_to t s none = s.page
page_to t s selects = page_after t s
page_to t s (names p) = p

abbrev chosen_to : Bool → Turn → Bool
chosen_to c none = c
chosen_to c selects = c
chosen_to c (names p) = true

-- both at once
record Moved (t : ℕ) (s : Slot) (turn : Turn) (now : Slot) : Type 0 where
  page : now.page ≡ page_to t s turn
  flag : now.chosen ≡ chosen_to s.chosen turn

order_moves : (f : Facts) (s : Slot) (image b : List ℕ) (o : Result Order Status) → Moved f.selects s (turn_by o) (slot_by f s image b o)
unfolding slot_by
order_moves f s image b (Err status) = record { page = refl; flag = refl }
order_moves f s image b (Ok Order.Select) = record { page = refl; flag = refl }
order_moves f s image b (Ok (Order.Page p)) = record { page = refl; flag = refl }
order_moves f s image b (Ok (Order.Read at n)) = record { page = refl; flag = refl }
order_moves f s image b (Ok (Order.Counter n)) = record { page = refl; flag = refl }
order_moves f s image b (Ok (Order.Bits at n)) = record { page = refl; flag = refl }
order_moves f s image b (Ok (Order.Write at)) = record { page = refl; flag = refl }
order_moves f s image b (Ok (Order.Protect at)) = record { page = refl; flag = refl }
order_moves f s image b (Ok Order.Present) = either (Moved f.selects s none) _ (λ _. record { page = refl; flag = refl }) (λ _. record { page = refl; flag = refl })
order_moves f s image b (Ok Order.Change) = record { page = refl; flag = refl }

module _ (chip : Chip) (s : Slot) (image : List ℕ) (m : Sent) (holds : s.holds ≡ Some chip) where
  abbrev f : Facts
  f = facts chip

  abbrev d : List ℕ
  d = apdu m.message

  abbrev turn : Request → Turn
  turn r = transfers r ⇒ turn_by (order f s d) ⁏ none

  deed_moves : (r : Request) → Moved f.selects s (turn r) (deed r (Some chip) s image m.message).slot
  unfolding deed commanded performed ◌⇒◌⁏◌
  deed_moves SetParameters = record { page = refl; flag = refl }
  deed_moves PowerOn = record { page = refl; flag = refl }
  deed_moves PowerOff = record { page = refl; flag = refl }
  deed_moves SlotStatus = record { page = refl; flag = refl }
  deed_moves GetParameters = record { page = refl; flag = refl }
  deed_moves ResetParameters = record { page = refl; flag = refl }
  deed_moves Transfer = order_moves f s image (body d) (order f s d)
  deed_moves Unsupported = record { page = refl; flag = refl }

  -- what is not heard is none
  unheard : heard s image m ≡ false → Moved f.selects s (turn_of f s image m) s
  unfolding turn_of
  unheard e = subst⁻¹ (λ (t : Turn). Moved f.selects s t s) (rest _ _ (sym (and_fails _ e))) (record { page = refl; flag = refl })

  came_moves : {o : Outcome} → Came s image m o → Moved f.selects s (turn_of f s image m) o.slot
  unfolding turn_of
  came_moves (down r e) = unheard e
  came_moves (failed p e) = unheard e
  came_moves (obeyed e) =
      let now : Option Chip → Slot = λ h. (deed (requested m) h s image m.message).slot in
      subst⁻¹ (λ (b : Bool). Moved f.selects s (b ⇒ turn_by (order f s d) ⁏ none) (now s.holds)) (sym (and_holds e refl))
      (subst⁻¹ (λ (h : Option Chip). Moved f.selects s (turn (requested m)) (now h)) holds (deed_moves (requested m)))

  message_moves : Moved f.selects s (turn_of f s image m) (sending s image m).slot
  message_moves = came_moves (came s image m)

-- ---- the turns of a run, from any page and flag
-- A4 twice is A4 once
for_again : (t p : ℕ) → page_for t (page_for t p) ≡ page_for t p
unfolding page_for
for_again t p =
    either (λ (n : ℕ). page_for t n ≡ n) (t is 2) (λ e. first _ _ e) (λ e. either (λ (n : ℕ). page_for t n ≡ n) (t is 1) (λ k. rest _ _ e ∙ first _ _ k) (λ k. rest _ _ e ∙ rest _ _ k))

-- the page that turns leave of a page p and a flag c, t being the card's type
abbrev left_by : ℕ → Bool → ℕ → List Turn → ℕ
left_by t c p ts = last_named (not c and selected ts ⇒ page_for t p ⁏ p) ts

left_step : (t : ℕ) (s : Slot) (x : Turn) (ts : List Turn) → left_by t s.chosen s.page (x ∷ ts) ≡ left_by t (chosen_to s.chosen x) (page_to t s x) ts
unfolding last_named selected page_after ◌⇒◌⁏◌ ◌and◌
left_step t s none ts = refl
left_step t s selects ts = go s.chosen
  where
    go : (c : Bool) → last_named (not c and true ⇒ page_for t s.page ⁏ s.page) ts ≡ left_by t c (c ⇒ s.page ⁏ page_for t s.page) ts
    go true = refl
    go false = ap (λ (n : ℕ). last_named n ts) (sym (same_choice (selected ts) (for_again t s.page)))
left_step t s (names p) ts = refl

named_step : (c : Bool) (x : Turn) (ts : List Turn) → (c or named (x ∷ ts)) ≡ (chosen_to c x or named ts)
unfolding named ◌or◌
named_step c none ts = refl
named_step c selects ts = refl
named_step true (names p) ts = refl
named_step false (names p) ts = refl

-- a run: from any slot with the card in it, any image and any messages
module _ (chip : Chip) where
  abbrev g : Facts
  g = facts chip

  run_page : (s : Slot) (image : List ℕ) (ms : List Sent) → s.holds ≡ Some chip → (run s image ms).slot.page ≡ left_by g.selects s.chosen s.page (turns g s image ms)
  unfolding run turns last_named selected
  run_page s image [] h = sym (never (not s.chosen) (page_for g.selects s.page) s.page)
  run_page s image (m ∷ ms) h =
      let o : Outcome = sending s image m in
      let moved = message_moves chip s image m h in
      let ts : List Turn = turns g o.slot o.image ms in
      run_page o.slot o.image ms (exchange_holds s image m.message m.room ∙ h)
      ∙ ap₂ (λ (c : Bool) (p : ℕ). left_by g.selects c p ts) moved.flag moved.page
      ∙ sym (left_step g.selects s (turn_of g s image m) ts)

  run_flag : (s : Slot) (image : List ℕ) (ms : List Sent) → s.holds ≡ Some chip → (run s image ms).slot.chosen ≡ (s.chosen or named (turns g s image ms))
  unfolding run turns named
  run_flag s image [] h = sym (or_end s.chosen)
  run_flag s image (m ∷ ms) h =
      let o : Outcome = sending s image m in
      let ts : List Turn = turns g o.slot o.image ms in
      run_flag o.slot o.image ms (exchange_holds s image m.message m.room ∙ h)
      ∙ ap (λ (c : Bool). c or named ts) (message_moves chip s image m h).flag
      ∙ sym (named_step s.chosen (turn_of g s image m) ts)

  -- ---- from page 8 and an unset flag on
  -- "8, or 32 from the first successful A4 of a type 02h card on"
  for_new : page_for g.selects 8 ≡ (g.selects is 2 ⇒ 32 ⁏ 8)
  unfolding page_for
  for_new = ap (λ (n : ℕ). g.selects is 2 ⇒ 32 ⁏ n) (same_choice (g.selects is 1) refl)

  unnamed_left : (ts : List Turn) → (not false and selected ts ⇒ page_for g.selects 8 ⁏ 8) ≡ unnamed g ts
  unfolding ◌and◌
  unnamed_left ts = ap (λ (n : ℕ). not false and selected ts ⇒ n ⁏ 8) for_new ∙ nested (g.selects is 2) (selected ts) 32 8

  module _ (s : Slot) (image : List ℕ) (holds : s.holds ≡ Some chip) (new : s.page ≡ 8) (unset : s.chosen ≡ false) where
    run_paging : (ms : List Sent) → Paging g s image ms (run s image ms).slot.page (run s image ms).slot.chosen
    unfolding ◌or◌
    run_paging ms =
        let ts : List Turn = turns g s image ms in
        record {
          page =
              run_page s image ms holds
              ∙ ap₂ (λ (c : Bool) (p : ℕ). left_by g.selects c p ts) unset new
              ∙ ap (λ (n : ℕ). last_named n ts) (unnamed_left ts);
          flag = run_flag s image ms holds ∙ ap (λ (c : Bool). c or named ts) unset;
        }

  -- ---- from the insertion on
  -- a card of any kind just inserted and left in: page and flag after any run of messages
  pub page_from : (s : Slot) (kind : ℕ) (image : List ℕ) → chip_of kind ≡ Some chip → (insertion s kind image).number ≡ 0 → (ms : List Sent)
      → let put = insertion s kind image in Paging g put.slot put.image ms (run_from s kind image ms).slot.page (run_from s kind image ms).slot.chosen
  page_from s kind image known e =
      let put = insertion s kind image in
      let q = put_in_slot chip s kind image known e in
      run_paging put.slot put.image (ap (λ (t : Slot). t.holds) q) (ap (λ (t : Slot). t.page) q) (ap (λ (t : Slot). t.chosen) q)

  -- so by calls: the card was put in by `card_reader_insert`, which returned 0; of bytes 3 and 16 of the record
  pub calls_page_from : (kind : ℕ) (r image : List ℕ) → chip_of kind ≡ Some chip → {left : List ℕ} → Returns (raw_insertion r kind image) (pos 0) left image [] []
      → {ms : List Sent} {r' image' : List ℕ} → Called left image ms r' image'
      → let put = insertion removed kind image in Paging g put.slot put.image ms (page_shown r') (chosen_shown r')
  unfolding raw_of low_first
  calls_page_from kind r image known returns {ms} {r'} calls =
      let put = insertion removed kind image in
      let p = call_inserts kind r image returns in
      let now : Slot = (run put.slot put.image ms).slot in
      let e : r' ≡ raw_of now = (called_run calls put.slot put.image p.1 (sym (put_image chip removed kind image))).0 in
      subst⁻¹ (λ (x : List ℕ). Paging g put.slot put.image ms (page_shown x) (chosen_shown x)) e
      (subst⁻¹ (Paging g put.slot put.image ms now.page) (flag_back now.chosen) (page_from removed kind image known p.0 ms))

  -- and by records: it was put in by `sitting::perform` with an insert record, which printed 0
  pub sittings_page_from : (h : Held) (had b : List ℕ) → chip_of (byte b 0) ≡ Some chip → {d : Done} {left was holds : List ℕ}
      → Leaves (outcome_of Mark.Insert b h.slot (take h.size had) least_room) d had left was holds → d.number ≡ 0 → {ms : List Sent} {held : Held} {later : List ℕ}
      → Sat d.held left ms held later
      → let put = insertion h.slot (byte b 0) (drop 1 b) in Paging g put.slot put.image ms held.slot.page held.slot.chosen
  sittings_page_from h had b known leaves done {ms} sits =
      let put = insertion h.slot (byte b 0) (drop 1 b) in
      let e = (sat_run sits put.slot put.image (held_slot h had b leaves done) (held_card h had b leaves done)).0 in
      subst⁻¹ (λ (t : Slot). Paging g put.slot put.image ms t.page t.chosen) e
      (page_from h.slot (byte b 0) (drop 1 b) known (record_accepted h had b leaves done) ms)

-- ---- which page the last 01 named
-- none is named, and the page is the one before; one is named and none behind it, and it is that one
pub none_named : (p : ℕ) (ts : List Turn) → named ts ≡ false → last_named p ts ≡ p
unfolding named last_named
none_named p [] e = refl
none_named p (none ∷ ts) e = none_named p ts e
none_named p (selects ∷ ts) e = none_named p ts e
none_named p (names q ∷ ts) e = absurd (true≢false e)

pub last_named_lem : (p q : ℕ) (ts us : List Turn) → named us ≡ false → last_named p (ts ++ (names q ∷ us)) ≡ q
unfolding last_named
last_named_lem p q [] us e = none_named q us e
last_named_lem p q (none ∷ ts) us e = last_named_lem p q ts us e
last_named_lem p q (selects ∷ ts) us e = last_named_lem p q ts us e
last_named_lem p q (names r ∷ ts) us e = last_named_lem r q ts us e

turns_append : (f : Facts) (s : Slot) (image : List ℕ) (ms ns : List Sent)
    → turns f s image (ms ++ ns) ≡ turns f s image ms ++ turns f (run s image ms).slot (run s image ms).image ns
unfolding turns run
turns_append f s image [] ns = refl
turns_append f s image (m ∷ ms) ns = ap (λ (ts : List Turn). turn_of f s image m ∷ ts) (turns_append f (sending s image m).slot (sending s image m).image ms ns)

-- a message m of a run names page q, and no later one names any: the page is q
module _ (f : Facts) (s : Slot) (image : List ℕ) (before : List Sent) (m : Sent) (later : List Sent) where
  abbrev at : Run
  at = run s image before

  pub page_named : {page : ℕ} {chosen : Bool} → Paging f s image (before ++ (m ∷ later)) page chosen → (q : ℕ) → turn_of f at.slot at.image m ≡ names q
      → named (turns f (sending at.slot at.image m).slot (sending at.slot at.image m).image later) ≡ false → page ≡ q
  unfolding turns
  page_named p q e n =
      let us : List Turn = turns f (sending at.slot at.image m).slot (sending at.slot at.image m).image later in
      let ts : List Turn = turns f s image before in
      let all : turns f s image (before ++ (m ∷ later)) ≡ ts ++ (names q ∷ us) = turns_append f s image before (m ∷ later) ∙ ap (λ (x : Turn). ts ++ (x ∷ us)) e in
      p.page ∙ ap (page_since f) all ∙ last_named_lem (unnamed f (ts ++ (names q ∷ us))) q ts us n

-- no message of a run names a page
pub page_unnamed : {f : Facts} {s : Slot} {image : List ℕ} {ms : List Sent} {page : ℕ} {chosen : Bool} → Paging f s image ms page chosen
    → named (turns f s image ms) ≡ false → page ≡ unnamed f (turns f s image ms)
page_unnamed {f} {s} {image} {ms} p e = p.page ∙ none_named (unnamed f (turns f s image ms)) (turns f s image ms) e

-- ---- before any 01
-- the page is no larger than the chip's: computed over the table's rows
unnamed_fits : (chip : Chip) (ts : List Turn) → 0 < (facts chip).page → unnamed (facts chip) ts ≤ (facts chip).page
unfolding all_of ◌and◌ ◌means◌ ◌or◌
unnamed_fits chip ts some =
    let f : Facts = facts chip in
    let paged : f.page isnt 0 ≡ true = ap not (ne_eqb f.page 0 (λ e. omega arith)) in
    let eight : 8 ≤ f.page = leb-true 8 _ (means_true _ _ (each (λ (x : Facts). x.page isnt 0 means leb 8 x.page) refl chip) paged) in
    let large : f.selects is 2 ≡ true → 32 ≤ f.page =
    λ e. leb-true 32 _ (means_true _ _ (means_true _ _ (each (λ (x : Facts). x.page isnt 0 means (x.selects is 2 means leb 32 x.page)) refl chip) paged) e) in
    either (λ (n : ℕ). n ≤ f.page) (f.selects is 2 and selected ts) (λ e. large (and_true _ _ e).0) (λ _. eight)

-- so a write to an I2C card of any size, just inserted, stores exactly the range that it names as long as no 01 has succeeded
module _ (chip : Chip) (s : Slot) (kind : ℕ) (image : List ℕ) (known : chip_of kind ≡ Some chip) (e : (insertion s kind image).number ≡ 0) (ms : List Sent) (m : Sent) (at : ℕ) where
  abbrev put : Outcome
  put = insertion s kind image

  abbrev now : Run
  now = run_from s kind image ms

  pub unnamed_range : named (turns (facts chip) put.slot put.image ms) ≡ false → Writes (facts chip) now.slot now.image m at → 0 < (facts chip).page
      → (sending now.slot now.image m).image ≡ take at now.image ++ sent_by m ++ drop (at + length (sent_by m)) now.image
  unnamed_range n w some =
      let ts : List Turn = turns (facts chip) put.slot put.image ms in
      let page : now.slot.page ≡ unnamed (facts chip) ts = page_unnamed (page_from chip s kind image known e ms) n in
      let holds : now.slot.holds ≡ Some chip = run_holds put.slot put.image ms ∙ ap (λ (t : Slot). t.holds) (put_in_slot chip s kind image known e) in
      message_range chip now.slot now.image m at holds w some (subst⁻¹ (λ (p : ℕ). p ≤ (facts chip).page) page (unnamed_fits chip ts some))
