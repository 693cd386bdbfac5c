-- One result only, for each offered function, named after it: two results that its contract allows at one input are equal, and so is every
-- byte that it may have left in what was lent to it.
use Prim.Native.Nat.{ℕ, ◌≤◌}
use mathlib.Core.Path.{◌≡◌, sym, ap, ◌∙◌}
use mathlib.Core.Bool.{Bool}
use mathlib.Core.List.{List, []}
use lib.ListN.{length, take}
use lib.IntN.{ℤ}
use Rattle.std.specs.Prelude.{Option, Result}
use Rattle.words.specs.Choice.{◌⇒◌⁏◌, ◌is◌}
use Rattle.words.specs.Bounds.{least_room}
use Rattle.records.specs.declared.Mark.{Mark}
use Rattle.records.specs.Records.{Found, mark_of, most, record_at}
use Rattle.chips.specs.declared.Chip.{Chip}
use Rattle.chips.specs.declared.Facts.{Facts}
use Rattle.chips.specs.Kinds.{facts, chip_of}
use Rattle.lines.specs.Lines.{Puts}
use Rattle.slot.specs.declared.Slot.{Slot}
use Rattle.sets.specs.Sets.{default_set, set_of, fault_at, takes}
use Rattle.slot.specs.Slots.{occupied, own_type, slotted, inserted, removed, powered, selecting, paged, opened, closed, set_as, defaulted, tries_as, protected_as}
use Rattle.counts.specs.Counts.{tries_of, protected_of}
use Rattle.card.specs.Images.{is_card}
use Rattle.sound.specs.Sound.{image_is_card, sound}
use Rattle.record.specs.declared.Flaw.{Flaw}
use Rattle.record.specs.Raw.{raw_of, slot_of}
use Rattle.frame.specs.declared.Refusal.{Refusal}
use Rattle.frame.specs.declared.Reply.{Reply}
use Rattle.frame.specs.Exchange.{Outcome, number_of, number, answer_length, exchange, insertion, Gives}
use Rattle.reader.specs.Fronts.{front_of}
use Rattle.reader.proofs.Verdicts.{verdict_only, reply_only}
use Rattle.calls.specs.Calls.{RawOutcome, raw_exchange, raw_insertion, raw_removal, RawGives, Returns}
use Rattle.sitting.specs.declared.Held.{Held}
use Rattle.sitting.specs.declared.Done.{Done}
use Rattle.sitting.specs.Sittings.{outcome_of, Leaves}
use Rattle.printed.specs.declared.Turned.{Turned}
use Rattle.printed.specs.Printed.{comes_of, parting}
use Rattle.printed.specs.Turns.{Turns}

-- ---- by the contract's form
-- a contract `r ≡ x`
value_only : {A : Type 0} {x r r' : A} → r ≡ x → r' ≡ x → r ≡ r'
value_only p q = p ∙ sym q

-- a contract by `Gives`
gives_only : {o : Outcome} {r r' : Reply} {left left' was holds holds' : List ℕ} → Gives o r left was holds → Gives o r' left' was holds'
    → (r ≡ r') × (left ≡ left') × (holds ≡ holds')
gives_only {r = r} {r' = r'} g g' = (
  reply_only r r' (verdict_only r.verdict r'.verdict (value_only g.number g'.number) (value_only g.len g'.len)) (value_only g.slot g'.slot),
  value_only g.image g'.image,
  value_only g.buffer g'.buffer,
)

-- a contract by `RawGives`
raw_gives_only : {o : RawOutcome} {v v' : Result ℕ Refusal} {left left' next next' was holds holds' : List ℕ} → RawGives o v left next was holds → RawGives o v' left' next' was holds'
    → (v ≡ v') × (left ≡ left') × (next ≡ next') × (holds ≡ holds')
raw_gives_only {v = v} {v' = v'} g g' = (
  verdict_only v v' (value_only g.number g'.number) (value_only g.len g'.len),
  value_only g.raw g'.raw,
  value_only g.image g'.image,
  value_only g.buffer g'.buffer,
)

-- a contract by `Returns`
returns_only : {o : RawOutcome} {n n' : ℤ} {left left' next next' was holds holds' : List ℕ} → Returns o n left next was holds → Returns o n' left' next' was holds'
    → (n ≡ n') × (left ≡ left') × (next ≡ next') × (holds ≡ holds')
returns_only g g' = (value_only g.result g'.result, value_only g.raw g'.raw, value_only g.image g'.image, value_only g.buffer g'.buffer)

-- what is held, field by field
abbrev held : Slot → ℕ → Held
held s m = record { slot = s; size = m }

held_only : (h h' : Held) → h.slot ≡ h'.slot → h.size ≡ h'.size → h ≡ h'
held_only h h' a b = ap (λ (s : Slot). held s h.size) a ∙ ap (held h'.slot) b

abbrev done_by_lem : ℕ → ℕ → Held → Done
done_by_lem k n h = record { number = k; len = n; held = h }

done_only : (r r' : Done) → r.number ≡ r'.number → r.len ≡ r'.len → r.held ≡ r'.held → r ≡ r'
done_only r r' a b c =
    ap (λ (k : ℕ). done_by_lem k r.len r.held) a
    ∙ ap (λ (n : ℕ). done_by_lem r'.number n r.held) b
    ∙ ap (done_by_lem r'.number r'.len) c

-- ---- chips and card
pub chips_chip_of_only : (kind : ℕ) (r r' : Option Chip) → r ≡ chip_of kind → r' ≡ chip_of kind → r ≡ r'
chips_chip_of_only kind r r' = value_only

pub chips_facts_only : (chip : Chip) (r r' : Facts) → r ≡ facts chip → r' ≡ facts chip → r ≡ r'
chips_facts_only chip r r' = value_only

pub card_is_card_only : (chip : Chip) (image : List ℕ) (r r' : Bool) → r ≡ is_card (facts chip) image → r' ≡ is_card (facts chip) image → r ≡ r'
card_is_card_only chip image r r' = value_only

-- ---- sets
pub sets_default_set_only : (r r' : ℕ) → r ≡ default_set → r' ≡ default_set → r ≡ r'
sets_default_set_only r r' = value_only

pub sets_set_of_only : (m : List ℕ) (r r' : ℕ) → r ≡ set_of m → r' ≡ set_of m → r ≡ r'
sets_set_of_only m r r' = value_only

pub sets_fault_at_only : (set n : ℕ) (r r' : Option ℕ) → r ≡ fault_at set n → r' ≡ fault_at set n → r ≡ r'
sets_fault_at_only set n r r' = value_only

pub sets_is_taken_only : (set : ℕ) (r r' : Bool) → r ≡ takes set → r' ≡ takes set → r ≡ r'
sets_is_taken_only set r r' = value_only

-- ---- slot
pub slot_empty_only : (r r' : Slot) → r ≡ removed → r' ≡ removed → r ≡ r'
slot_empty_only r r' = value_only

pub slot_of_only : (h : Option Chip) (on : Bool) (type page : ℕ) (o : Bool) (set left n : ℕ) (c : Bool) (r r' : Slot) → r ≡ slotted h on type page o set left n c
    → r' ≡ slotted h on type page o set left n c → r ≡ r'
slot_of_only h on type page o set left n c r r' = value_only

pub slot_insert_only : (chip : Chip) (left n : ℕ) (r r' : Slot) → r ≡ inserted chip left n → r' ≡ inserted chip left n → r ≡ r'
slot_insert_only chip left n r r' = value_only

pub slot_remove_only : (r r' : Slot) → r ≡ removed → r' ≡ removed → r ≡ r'
slot_remove_only r r' = value_only

module _ (s : Slot) where
  pub slot_power_only : (on : Bool) (r r' : Slot) → r ≡ powered on s → r' ≡ powered on s → r ≡ r'
  slot_power_only on r r' = value_only

  pub slot_select_only : (own : ℕ) (r r' : Slot) → r ≡ selecting own s → r' ≡ selecting own s → r ≡ r'
  slot_select_only own r r' = value_only

  pub slot_set_page_only : (page : ℕ) (r r' : Slot) → r ≡ paged page s → r' ≡ paged page s → r ≡ r'
  slot_set_page_only page r r' = value_only

  pub slot_open_only : (r r' : Slot) → r ≡ opened s → r' ≡ opened s → r ≡ r'
  slot_open_only r r' = value_only

  pub slot_close_only : (r r' : Slot) → r ≡ closed s → r' ≡ closed s → r ≡ r'
  slot_close_only r r' = value_only

  pub slot_with_set_only : (set : ℕ) (r r' : Slot) → r ≡ set_as set s → r' ≡ set_as set s → r ≡ r'
  slot_with_set_only set r r' = value_only

  pub slot_reset_set_only : (r r' : Slot) → r ≡ defaulted s → r' ≡ defaulted s → r ≡ r'
  slot_reset_set_only r r' = value_only

  pub slot_with_tries_only : (left : ℕ) (r r' : Slot) → r ≡ tries_as left s → r' ≡ tries_as left s → r ≡ r'
  slot_with_tries_only left r r' = value_only

  pub slot_with_protected_only : (n : ℕ) (r r' : Slot) → r ≡ protected_as n s → r' ≡ protected_as n s → r ≡ r'
  slot_with_protected_only n r r' = value_only

  pub slot_has_card_only : (r r' : Bool) → r ≡ occupied s.holds → r' ≡ occupied s.holds → r ≡ r'
  slot_has_card_only r r' = value_only

  pub slot_own_type_only : (r r' : ℕ) → r ≡ own_type s.holds → r' ≡ own_type s.holds → r ≡ r'
  slot_own_type_only r r' = value_only

-- ---- counts
module _ (h : Option Chip) (image : List ℕ) where
  pub counts_tries_of_only : (r r' : ℕ) → r ≡ tries_of h image → r' ≡ tries_of h image → r ≡ r'
  counts_tries_of_only r r' = value_only

  pub counts_protected_of_only : (r r' : ℕ) → r ≡ protected_of h image → r' ≡ protected_of h image → r ≡ r'
  counts_protected_of_only r r' = value_only

-- ---- sound
module _ (s : Slot) (image : List ℕ) where
  pub sound_fits_only : (r r' : Bool) → r ≡ image_is_card s.holds image → r' ≡ image_is_card s.holds image → r ≡ r'
  sound_fits_only r r' = value_only

  pub sound_is_sound_only : (r r' : Bool) → r ≡ sound s image → r' ≡ sound s image → r ≡ r'
  sound_is_sound_only r r' = value_only

-- ---- frame: what a refusal and a verdict say
pub frame_refusal_number_only : (f : Refusal) (r r' : ℕ) → (r ≡ number_of f) × (r ≤ 5) → (r' ≡ number_of f) × (r' ≤ 5) → r ≡ r'
frame_refusal_number_only f r r' p q = value_only p.0 q.0

pub frame_verdict_number_only : (v : Result ℕ Refusal) (r r' : ℕ) → (r ≡ number v) × (r ≤ 5) → (r' ≡ number v) × (r' ≤ 5) → r ≡ r'
frame_verdict_number_only v r r' p q = value_only p.0 q.0

pub frame_verdict_len_only : (v : Result ℕ Refusal) (r r' : ℕ) → r ≡ answer_length v → r' ≡ answer_length v → r ≡ r'
frame_verdict_len_only v r r' = value_only

-- ---- reader
pub reader_front_only : (m : List ℕ) (room : ℕ) (r r' : Result ℕ Refusal) → r ≡ front_of m room → r' ≡ front_of m room → r ≡ r'
reader_front_only m room r r' = value_only

pub reader_message_only : (s : Slot) (image m was : List ℕ) (r r' : Reply) (left left' holds holds' : List ℕ)
    → Gives (exchange s image m (length was)) r left was holds → Gives (exchange s image m (length was)) r' left' was holds'
    → (r ≡ r') × (left ≡ left') × (holds ≡ holds')
reader_message_only s image m was r r' left left' holds holds' = gives_only

pub reader_insert_only : (s : Slot) (kind : ℕ) (image : List ℕ) (r r' : Reply)
    → Gives (insertion s kind image) r image [] [] → Gives (insertion s kind image) r' image [] [] → r ≡ r'
reader_insert_only s kind image r r' g g' = (gives_only g g').0

pub reader_remove_only : (r r' : Slot) → r ≡ removed → r' ≡ removed → r ≡ r'
reader_remove_only r r' = value_only

-- ---- record
pub record_read_record_only : (raw : List ℕ) (r r' : Result Slot Flaw) → r ≡ slot_of raw → r' ≡ slot_of raw → r ≡ r'
record_read_record_only raw r r' = value_only

pub record_write_record_only : (s : Slot) (was left left' : List ℕ) → left ≡ (length was is 32 ⇒ raw_of s ⁏ was) → left' ≡ (length was is 32 ⇒ raw_of s ⁏ was) → left ≡ left'
record_write_record_only s was left left' = value_only

-- ---- calls, and those for C in card_reader
module _ (raw image m was : List ℕ) where
  pub calls_message_only : (v v' : Result ℕ Refusal) (left left' next next' holds holds' : List ℕ)
      → RawGives (raw_exchange raw image m (length was)) v left next was holds → RawGives (raw_exchange raw image m (length was)) v' left' next' was holds'
      → (v ≡ v') × (left ≡ left') × (next ≡ next') × (holds ≡ holds')
  calls_message_only v v' left left' next next' holds holds' = raw_gives_only

  pub card_reader_message_only : (n n' : ℤ) (left left' next next' holds holds' : List ℕ)
      → Returns (raw_exchange raw image m (length was)) n left next was holds → Returns (raw_exchange raw image m (length was)) n' left' next' was holds'
      → (n ≡ n') × (left ≡ left') × (next ≡ next') × (holds ≡ holds')
  card_reader_message_only n n' left left' next next' holds holds' = returns_only

module _ (raw : List ℕ) (kind : ℕ) (image : List ℕ) where
  pub calls_insert_only : (v v' : Result ℕ Refusal) (left left' : List ℕ)
      → RawGives (raw_insertion raw kind image) v left image [] [] → RawGives (raw_insertion raw kind image) v' left' image [] [] → (v ≡ v') × (left ≡ left')
  calls_insert_only v v' left left' g g' = let p = raw_gives_only g g' in (p.0, p.1)

  pub card_reader_insert_only : (n n' : ℤ) (left left' : List ℕ)
      → Returns (raw_insertion raw kind image) n left image [] [] → Returns (raw_insertion raw kind image) n' left' image [] [] → (n ≡ n') × (left ≡ left')
  card_reader_insert_only n n' left left' g g' = let p = returns_only g g' in (p.0, p.1)

module _ (raw : List ℕ) where
  pub calls_remove_only : (v v' : Result ℕ Refusal) (left left' : List ℕ)
      → RawGives (raw_removal raw) v left [] [] [] → RawGives (raw_removal raw) v' left' [] [] [] → (v ≡ v') × (left ≡ left')
  calls_remove_only v v' left left' g g' = let p = raw_gives_only g g' in (p.0, p.1)

  pub card_reader_remove_only : (n n' : ℤ) (left left' : List ℕ) → Returns (raw_removal raw) n left [] [] [] → Returns (raw_removal raw) n' left' [] [] [] → (n ≡ n') × (left ≡ left')
  card_reader_remove_only n n' left left' g g' = let p = returns_only g g' in (p.0, p.1)

-- ---- records
pub records_mark_of_only : (word : ℕ) (r r' : Option Mark) → r ≡ mark_of word → r' ≡ mark_of word → r ≡ r'
records_mark_of_only word r r' = value_only

pub records_mark_most_only : (mark : Mark) (r r' : ℕ) → r ≡ most mark → r' ≡ most mark → r ≡ r'
records_mark_most_only mark r r' = value_only

pub records_read_only : (input : List ℕ) (at : ℕ) (r r' : Found) → r ≡ record_at input at → r' ≡ record_at input at → r ≡ r'
records_read_only input at r r' = value_only

-- ---- sitting
pub sitting_start_only : (r r' : Held) → (r.slot ≡ removed) × (r.size ≡ 0) → (r'.slot ≡ removed) × (r'.size ≡ 0) → r ≡ r'
sitting_start_only r r' p q = held_only r r' (value_only p.0 q.0) (value_only p.1 q.1)

pub sitting_perform_only : (mark : Mark) (body : List ℕ) (h : Held) (had was : List ℕ) (r r' : Done) (left left' holds holds' : List ℕ)
    → Leaves (outcome_of mark body h.slot (take h.size had) least_room) r had left was holds
    → Leaves (outcome_of mark body h.slot (take h.size had) least_room) r' had left' was holds'
    → (r ≡ r') × (left ≡ left') × (holds ≡ holds')
sitting_perform_only mark body h had was r r' left left' holds holds' g g' = (
  done_only r r' (value_only g.number g'.number) (value_only g.len g'.len)
      (held_only r.held r'.held (value_only g.slot g'.slot) (value_only g.size g'.size)),
  value_only g.image g'.image,
  value_only g.buffer g'.buffer,
)

-- ---- printed
puts_only : {b d h h' : List ℕ} {r r' : ℕ} → Puts b r d h → Puts b r' d h' → (r ≡ r') × (h ≡ h')
puts_only p p' = (value_only p.len p'.len, value_only p.buffer p'.buffer)

abbrev turned_by : Held → ℕ → Turned
turned_by h n = record { held = h; len = n }

turned_only : (r r' : Turned) → r.held ≡ r'.held → r.len ≡ r'.len → r ≡ r'
turned_only r r' a b = ap (λ (h : Held). turned_by h r.len) a ∙ ap (turned_by r'.held) b

pub printed_turn_only : (mark : Mark) (body : List ℕ) (h : Held) (had was blank : List ℕ) (r r' : Turned) (left left' holds holds' told told' : List ℕ)
    → Turns mark (comes_of mark body h.slot (take h.size had)) r had left was holds blank told
    → Turns mark (comes_of mark body h.slot (take h.size had)) r' had left' was holds' blank told'
    → (r ≡ r') × (left ≡ left') × (holds ≡ holds') × (told ≡ told')
printed_turn_only mark body h had was blank r r' left left' holds holds' told told' t t' =
    let p = puts_only t.line t'.line in (
      turned_only r r' (held_only r.held r'.held (value_only t.slot t'.slot) (value_only t.size t'.size)) p.0,
      value_only t.image t'.image,
      value_only t.buffer t'.buffer,
      p.1,
    )

pub printed_leave_only : (found : Found) (was : List ℕ) (r r' : ℕ) (holds holds' : List ℕ) → Puts (parting found) r was holds → Puts (parting found) r' was holds'
    → (r ≡ r') × (holds ≡ holds')
printed_leave_only found was r r' holds holds' = puts_only
