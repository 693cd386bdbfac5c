-- Sequences of calls are runs: what `card_reader_message` leaves of a raw record and an image, and `sitting::perform` of what is held, is what
-- the run leaves, so the sentence holds of both.
use Prim.Native.Nat.{ℕ, zero, suc}
use mathlib.Core.Path.{◌≡◌, refl, sym, ap, ap₂, ◌∙◌, subst, subst⁻¹}
use mathlib.Core.Bool.{true}
use mathlib.Core.List.{List, [], ◌∷◌}
use native.Mathlib.Omega.{arith}
use lib.ListN.{length, take, drop, replicate, length-replicate}
use lib.IntN.{ℤ, pos}
use borrow.Author.Tests.{eq-eqb}
use Rattle.std.specs.Prelude.{Result, Some, Ok, Err}
use Rattle.words.specs.Choice.{◌isnt◌}
use Rattle.words.specs.Bytes.{byte, over}
use Rattle.words.specs.Bounds.{least_room}
use Rattle.words.proofs.Choices.{past, first, rest}
use Rattle.records.specs.declared.Mark.{Mark}
use Rattle.chips.specs.declared.Chip.{Chip}
use Rattle.chips.specs.Kinds.{facts, chip_of}
use Rattle.slot.specs.declared.Slot.{Slot}
use Rattle.slot.specs.Slots.{removed}
use Rattle.record.specs.declared.Flaw.{Flaw}
use Rattle.record.specs.Raw.{raw_of}
use Rattle.record.proofs.Records.{reads_back_lem}
use Rattle.frame.specs.Exchange.{Outcome, served, exchange, insertion, reply, replied}
use Rattle.reader.specs.Fronts.{front_of, fronted}
use Rattle.reader.specs.Runs.{Sent, sending, run}
use Rattle.reader.proofs.Fronting.{exchange_fronted}
use Rattle.calls.specs.Calls.{RawOutcome, keeping, raw_served, raw_fronted, raw_exchange, raw_insertion, result_of, Returns}
use Rattle.sitting.specs.declared.Held.{Held}
use Rattle.sitting.specs.declared.Done.{Done}
use Rattle.sitting.specs.Sittings.{outcome_of, holding, taken_for, Leaves}
use Rattle.sitting.proofs.Holding.{held_is, accepted_kind}
use Rattle.vectors.specs.Sessions.{lent}
use Rattle.promise.specs.Tries.{PutIn, run_from, Sentence}
use Rattle.counts.specs.Counts.{tries_in}
use Rattle.promise.specs.Sequences.{sent_with, Called, hung, called, Sat, stood, sat, SomeCalls, SomeSitting}
use Rattle.promise.proofs.Zero.{zero_kept}
use Rattle.promise.proofs.Cases.{sentence_holds}
use Rattle.promise.proofs.Inserted.{put_image}
use Rattle.frame.specs.declared.Refusal.{Refusal}

-- ---- calls on a raw record
-- what comes of a message on the record that was written from a slot is what comes of it on the slot, written
abbrev written_out : Outcome → RawOutcome
written_out o = record { number = o.number; answer = o.answer; raw = raw_of o.slot; image = o.image }

-- turned down, the slot is as it was
record Keeps (s : Slot) (o : Outcome) : Type 0 where
  keeps : keeping o.number o.slot (raw_of s) ≡ raw_of o.slot

module _ (s : Slot) (image m : List ℕ) where
  served_keeps : Keeps s (served s image m)
  unfolding served reply replied keeping
  served_keeps =
      past (Keeps s) _ (record { keeps = rest _ _ refl }) (λ _.
      past (Keeps s) _ (record { keeps = rest _ _ refl }) (λ _.
      record { keeps = first _ _ refl }))

  pub raw_exchange_is : (room : ℕ) → raw_exchange (raw_of s) image m room ≡ written_out (exchange s image m room)
  unfolding raw_exchange raw_served
  raw_exchange_is room = go (front_of m room) ∙ ap written_out (sym (exchange_fronted s image m room))
    where
      go : (x : Result ℕ Refusal) → raw_fronted x (raw_of s) image m ≡ written_out (fronted x s image m)
      go (Err f) = refl
      go (Ok n) =
          ap (λ (x : Result Slot Flaw). raw_served x (raw_of s) image m) (reads_back_lem s)
          ∙ ap (λ (r : List ℕ). record { number = (served s image m).number; answer = (served s image m).answer; raw = r; image = (served s image m).image }) served_keeps.keeps

-- a sequence of calls is the run of its messages
pub called_run : {r image : List ℕ} {ms : List Sent} {r' image' : List ℕ} → Called r image ms r' image' → (s : Slot) (start : List ℕ) → r ≡ raw_of s → image ≡ start
    → (r' ≡ raw_of (run s start ms).slot) × (image' ≡ (run s start ms).image)
unfolding run
called_run (hung r image) s start e i = (e, i)
called_run {r} {image} (called m was g later) s start e i =
    let o : Outcome = exchange s start m (length was) in
    let k : raw_exchange r image m (length was) ≡ written_out o =
    ap (λ (l : List ℕ). raw_exchange l image m (length was)) e
    ∙ ap (λ (l : List ℕ). raw_exchange (raw_of s) l m (length was)) i
    ∙ raw_exchange_is s start m (length was) in
    called_run later o.slot o.image (g.raw ∙ ap (λ (x : RawOutcome). x.raw) k) (g.image ∙ ap (λ (x : RawOutcome). x.image) k)

-- any messages, with any rooms, can be called
pub calls_go : (r image : List ℕ) (ms : List Sent) → SomeCalls r image ms
calls_go r image [] = record { left = r; next = image; sequence = hung r image }
calls_go r image (m ∷ ms) =
    let was : List ℕ = replicate m.room 0 in
    let o : RawOutcome = raw_exchange r image m.message (length was) in
    let later = calls_go o.raw o.image ms in
    let gives : Returns o (result_of o.number (length o.answer)) o.raw o.image was (over o.answer was) =
    record { result = refl; raw = refl; image = refl; buffer = refl } in
    record {
      left = later.left;
      next = later.next;
      sequence =
          subst (λ (n : ℕ). Called r image (sent_with m.message n ∷ ms) later.left later.next) (length-replicate m.room 0)
          (called m.message was gives later.sequence);
    }

-- ---- messages of a sitting
pub sat_run : {h : Held} {had : List ℕ} {ms : List Sent} {h' : Held} {left' : List ℕ} → Sat h had ms h' left' → (s : Slot) (image : List ℕ) → h.slot ≡ s
    → take h.size had ≡ image
    → (h'.slot ≡ (run s image ms).slot) × (take h'.size left' ≡ (run s image ms).image)
unfolding run outcome_of
sat_run (stood h had) s image e i = (e, i)
sat_run {h} {had} (sat m {d = d} {left = left} g later) s image e i =
    let o : Outcome = exchange s image m least_room in
    let k : exchange h.slot (take h.size had) m least_room ≡ o = ap (λ (t : Slot). exchange t (take h.size had) m least_room) e
    ∙ ap (λ (l : List ℕ). exchange s l m least_room) i in
    sat_run later o.slot o.image (g.slot ∙ ap (λ (x : Outcome). x.slot) k) (held_is g ∙ ap (λ (x : Outcome). x.image) k)

-- one message by `card_reader_message` on the record of a slot, and by `sitting::perform` on what is held: what it leaves is the reader's
pub call_image : (s : Slot) (image : List ℕ) (m : Sent) {n : ℤ} {left next was out : List ℕ}
    → Returns (raw_exchange (raw_of s) image m.message m.room) n left next was out → next ≡ (sending s image m).image
call_image s image m g = g.image ∙ ap (λ (o : RawOutcome). o.image) (raw_exchange_is s image m.message m.room)

pub sitting_sends : (h : Held) (had : List ℕ) (s : Slot) (image : List ℕ) (m : Sent) → h.slot ≡ s → take h.size had ≡ image → m.room ≡ least_room
    → outcome_of Mark.Message m.message h.slot (take h.size had) least_room ≡ sending s image m
unfolding outcome_of
sitting_sends h had s image m p q r =
    ap₂ (λ (t : Slot) (i : List ℕ). exchange t i m.message least_room) p q ∙ ap (exchange s image m.message) (sym r)

pub sitting_image : (h : Held) (had : List ℕ) (s : Slot) (image : List ℕ) (m : Sent) → h.slot ≡ s → take h.size had ≡ image → m.room ≡ least_room
    → {d : Done} {left was out : List ℕ} → Leaves (outcome_of Mark.Message m.message h.slot (take h.size had) least_room) d had left was out
    → take d.held.size left ≡ (sending s image m).image
sitting_image h had s image m p q r g = held_is g ∙ ap (λ (o : Outcome). o.image) (sitting_sends h had s image m p q r)

-- any messages can be performed
pub sittings_go : (h : Held) (had : List ℕ) (ms : List (List ℕ)) → SomeSitting h had (lent ms)
unfolding lent
sittings_go h had [] = record { held = h; left = had; sequence = stood h had }
sittings_go h had (m ∷ ms) =
    let o : Outcome = outcome_of Mark.Message m h.slot (take h.size had) least_room in
    let d : Done = record { number = o.number; len = length o.answer; held = record { slot = o.slot; size = length o.image } } in
    let later = sittings_go d.held (over o.image had) ms in
    let leaves : Leaves o d had (over o.image had) [] (over o.answer []) =
    record { number = refl; len = refl; slot = refl; size = refl; image = refl; buffer = refl } in
    record { held = later.held; left = later.left; sequence = sat m leaves later.sequence }

-- ---- a card put in
-- a card of any kind put in by `card_reader_insert`, which returned 0
module _ (kind : ℕ) (r image : List ℕ) {left : List ℕ} (g : Returns (raw_insertion r kind image) (pos 0) left image [] []) where
  zero_number : (n len : ℕ) → pos 0 ≡ result_of n len → n ≡ 0
  zero_number zero len e = refl
  zero_number (suc n) len e = cc

  record Put (o : RawOutcome) : Type 0 where
    put : o.number ≡ 0 → ((insertion removed kind image).number ≡ 0) × (o.raw ≡ raw_of (insertion removed kind image).slot)

  raw_put : Put (raw_insertion r kind image)
  unfolding raw_insertion keeping
  raw_put =
      past Put (length r isnt 32) (record { put = λ e. absurd (omega arith) }) (λ _.
      past Put (byte r 0 isnt 0) (record { put = λ e. absurd (omega arith) }) (λ _.
      record { put = λ e. (e, first _ _ (eq-eqb _ 0 e)) }))

  pub call_inserts : ((insertion removed kind image).number ≡ 0) × (left ≡ raw_of (insertion removed kind image).slot)
  call_inserts =
      let p = raw_put.put (zero_number _ _ g.result) in
      (p.0, g.raw ∙ p.1)

-- and one put in by `sitting::perform` with an insert record, which printed 0
module _ (h : Held) (had body : List ℕ) {d : Done} {left was holds : List ℕ}
    (g : Leaves (outcome_of Mark.Insert body h.slot (take h.size had) least_room) d had left was holds) (zero : d.number ≡ 0) where
  -- of the kind that the program takes the kind byte for, and that is the kind byte
  taken_accepted : (insertion h.slot (taken_for (byte body 0)) (drop 1 body)).number ≡ 0
  unfolding outcome_of holding
  taken_accepted = sym g.number ∙ zero

  put_same : insertion h.slot (taken_for (byte body 0)) (drop 1 body) ≡ insertion h.slot (byte body 0) (drop 1 body)
  put_same = ap (λ (k : ℕ). insertion h.slot k (drop 1 body)) (accepted_kind h.slot (byte body 0) (drop 1 body) taken_accepted)

  pub record_accepted : (insertion h.slot (byte body 0) (drop 1 body)).number ≡ 0
  record_accepted = ap (λ (o : Outcome). o.number) (sym put_same) ∙ taken_accepted

  pub held_card : take d.held.size left ≡ (insertion h.slot (byte body 0) (drop 1 body)).image
  unfolding outcome_of holding
  held_card = held_is g ∙ first _ _ (eq-eqb _ 0 taken_accepted) ∙ ap (λ (o : Outcome). o.image) put_same

  pub held_slot : d.held.slot ≡ (insertion h.slot (byte body 0) (drop 1 body)).slot
  unfolding outcome_of holding
  held_slot = g.slot ∙ ap (λ (o : Outcome). o.slot) put_same

-- ---- the sentence, for both
-- a code card put in by `card_reader_insert`, which returned 0
module _ (chip : Chip) (coded : (facts chip).coded ≡ true) (kind : ℕ) (known : chip_of kind ≡ Some chip) (r image : List ℕ) {left : List ℕ}
    (g : Returns (raw_insertion r kind image) (pos 0) left image [] []) where
  call_put : ((insertion removed kind image).number ≡ 0) × (left ≡ raw_of (insertion removed kind image).slot)
  call_put = call_inserts kind r image g

  pub call_puts_in : PutIn chip removed kind image
  call_puts_in = record { coded = coded; known = known; accepted = call_put.0 }

  -- then the record and the image after any calls of `card_reader_message` are the run's
  pub calls_run : {ms : List Sent} {r' image' : List ℕ} → Called left image ms r' image'
      → (r' ≡ raw_of (run_from removed kind image ms).slot) × (image' ≡ (run_from removed kind image ms).image)
  calls_run later = called_run later (insertion removed kind image).slot (insertion removed kind image).image call_put.1 (sym (put_image chip removed kind image))

  pub calls_remain : {ms : List Sent} {r' image' : List ℕ} → Called left image ms r' image'
      → Sentence (facts chip) (insertion removed kind image).slot (insertion removed kind image).image ms image'
  calls_remain {ms} later =
      subst⁻¹ (Sentence (facts chip) (insertion removed kind image).slot (insertion removed kind image).image ms) (calls_run later).1
      (sentence_holds chip removed kind image ms call_puts_in)

  -- and from zero no call changes a byte of it
  pub calls_zero : {ms ns : List Sent} {r' r'' image' image'' : List ℕ} → Called left image ms r' image' → tries_in (facts chip) image' ≡ 0
      → Called r' image' ns r'' image'' → image'' ≡ image'
  calls_zero {ms} {ns} before z later =
      let e = calls_run before in
      let u = run_from removed kind image ms in
      (called_run later u.slot u.image e.0 e.1).1
      ∙ zero_kept chip removed kind image call_puts_in ms ns (ap (tries_in (facts chip)) (sym e.1) ∙ z)
      ∙ sym e.1

-- a code card put in by `sitting::perform` with an insert record, which printed 0
module _ (chip : Chip) (coded : (facts chip).coded ≡ true) (h : Held) (had body : List ℕ) (known : chip_of (byte body 0) ≡ Some chip) {d : Done} {left was holds : List ℕ}
    (g : Leaves (outcome_of Mark.Insert body h.slot (take h.size had) least_room) d had left was holds) (zero : d.number ≡ 0) where
  abbrev card : List ℕ
  card = drop 1 body

  abbrev put : Outcome
  put = insertion h.slot (byte body 0) card

  pub record_puts_in : PutIn chip h.slot (byte body 0) card
  record_puts_in = record { coded = coded; known = known; accepted = record_accepted h had body g zero }

  -- then the slot and the image that are held after any message records are the run's
  pub sittings_run : {ms : List Sent} {h' : Held} {left' : List ℕ} → Sat d.held left ms h' left'
      → (h'.slot ≡ (run_from h.slot (byte body 0) card ms).slot) × (take h'.size left' ≡ (run_from h.slot (byte body 0) card ms).image)
  sittings_run later = sat_run later put.slot put.image (held_slot h had body g zero) (held_card h had body g zero)

  pub sittings_remain : {ms : List Sent} {h' : Held} {left' : List ℕ} → Sat d.held left ms h' left'
      → Sentence (facts chip) put.slot put.image ms (take h'.size left')
  sittings_remain {ms} later =
      subst⁻¹ (Sentence (facts chip) put.slot put.image ms) (sittings_run later).1
      (sentence_holds chip h.slot (byte body 0) card ms record_puts_in)

  pub sittings_zero : {ms ns : List Sent} {h' h'' : Held} {left' left'' : List ℕ} → Sat d.held left ms h' left' → tries_in (facts chip) (take h'.size left') ≡ 0
      → Sat h' left' ns h'' left'' → take h''.size left'' ≡ take h'.size left'
  sittings_zero {ms} {ns} before z later =
      let e = sittings_run before in
      let u = run_from h.slot (byte body 0) card ms in
      (sat_run later u.slot u.image e.0 e.1).1
      ∙ zero_kept chip h.slot (byte body 0) card record_puts_in ms ns (ap (tries_in (facts chip)) (sym e.1) ∙ z)
      ∙ sym e.1
