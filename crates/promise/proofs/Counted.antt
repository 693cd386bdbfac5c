-- The counts of the slot record are the image's own, after an insertion and after every message that is answered; over runs from the insertion on
-- tries left are demand 3's, and the number of protected bytes is the one that the card came with and what each D1 added.
use Rattle.std.specs.Prelude.{Result, Ok, Err}
use Prim.Native.Nat.{ℕ, zero, suc, ◌+◌, ◌-◌, ◌*◌, ◌/◌, ◌%◌, ◌≤◌, ◌<◌}
use mathlib.Core.Path.{◌≡◌, refl, sym, ap, ap₂, ◌∙◌, subst, subst⁻¹}
use mathlib.Core.Bool.{Bool, false, not}
use mathlib.Core.List.{List, [], ◌∷◌, ◌++◌}
use native.Mathlib.Omega.{arith}
use lib.ListN.{length, take, drop, length-drop}
use lib.Seq.{take-suc, get_or-drop}
use lib.IntN.{pos}
use borrow.Author.Tests.{eqb-true, eqb-false, not-true, not-false}
use mathlib.Core.Logic.{inl}
use Rattle.std.specs.Prelude.{Option, Some}
use Rattle.words.specs.Choice.{◌⇒◌⁏◌, ◌is◌}
use Rattle.words.specs.Bytes.{byte, low_first}
use Rattle.words.specs.Bounds.{least_room}
use Rattle.words.proofs.Choices.{either, rest, and_fails, and_holds}
use Rattle.chips.specs.declared.Chip.{Chip}
use Rattle.chips.specs.declared.Facts.{Facts}
use Rattle.chips.specs.Kinds.{facts, chip_of}
use Rattle.chips.proofs.KindLaws.{laid}
use Rattle.bits.specs.Bits.{bit_of, zero_bits, zeros_of, protected_count, protecting, protect_equal}
use Rattle.bits.proofs.ProtectionLaws.{protected_covered, length_protecting, byte_protect_equal}
use Rattle.bits.proofs.BitLaws.{bit_half, bit_protecting, protected_same}
use Rattle.bits.proofs.CountLaws.{count_protecting}
use Rattle.slot.specs.declared.Slot.{Slot}
use Rattle.slot.specs.Slots.{removed}
use Rattle.counts.specs.Counts.{count_in, tries_of, protected_of, Counted}
use Rattle.counts.proofs.CardLaws.{tries_card, protected_card}
use Rattle.card.proofs.ImageLaws.{IsCard}
use Rattle.sound.proofs.SoundLaws.{sound_parts}
use Rattle.record.specs.Raw.{raw_of}
use Rattle.steps.specs.declared.Status.{Status}
use Rattle.steps.specs.declared.Order.{Order}
use Rattle.steps.specs.Steps.{order, body}
use Rattle.steps.specs.Fits.{Fit}
use Rattle.steps.proofs.Decisions.{order_fits}
use Rattle.orders.specs.Orders.{image_by, performed, commanded}
use Rattle.orders.proofs.ImageKept.{count_written, count_presented, count_changed}
use Rattle.faults.specs.declared.Request.{Request}
use Rattle.faults.specs.declared.Request.TheVariants.{SetParameters, PowerOn, PowerOff, SlotStatus, GetParameters, ResetParameters, Transfer, Unsupported}
use Rattle.faults.specs.Faults.{apdu}
use Rattle.frame.specs.Exchange.{Outcome, deed, exchange, insertion}
use Rattle.reader.specs.Runs.{Sent, Run, sending, run}
use Rattle.reader.specs.Proper.{Proper}
use Rattle.reader.specs.Heard.{requested, heard, transfers}
use Rattle.reader.proofs.Came.{Came, down, failed, obeyed, came, heard_proper}
use Rattle.reader.proofs.Insertions.{insertion_inserts}
use Rattle.reader.proofs.Kept.{proper_card, exchange_holds, answered_proper, insertion_proper, removed_proper}
use Rattle.calls.specs.Calls.{raw_insertion, Returns}
use Rattle.records.specs.declared.Mark.{Mark}
use Rattle.sitting.specs.declared.Held.{Held}
use Rattle.sitting.specs.declared.Done.{Done}
use Rattle.sitting.specs.Sittings.{outcome_of, Leaves}
use Rattle.promise.specs.Tries.{run_from}
use Rattle.promise.specs.Protected.{protected_in}
use Rattle.promise.specs.Sequences.{Called, Sat}
use Rattle.promise.specs.Counted.{places, one_new, newly, added_by, added, added_in, tries_shown, protected_shown, Shown}
use Rattle.promise.proofs.RunLaws.{run_holds, run_proper}
use Rattle.promise.proofs.Inserted.{put_in_slot, put_image}
use Rattle.promise.proofs.Tries.{tries_left_lem}
use Rattle.promise.proofs.Sequences.{called_run, sat_run, call_inserts, record_accepted, held_card, held_slot}

-- ---- the number is how many bytes are protected
-- the zero bits of n + 1 bits are those of n and the last one
zeros_top : (n b : ℕ) → zero_bits (suc n) b ≡ zero_bits n b + (1 - bit_of b n)
unfolding zero_bits
zeros_top zero b = omega arith
zeros_top (suc n) b = omega (arith, zeros_top n (b / 2), bit_half b n)

zeros_more : (l : List ℕ) (b : ℕ) → zeros_of (l ++ (b ∷ [])) ≡ zeros_of l + zero_bits 8 b
unfolding zeros_of
zeros_more [] b = omega arith
zeros_more (x ∷ l) b = omega (arith, zeros_more l b)

module _ (chip : Chip) where
  abbrev f : Facts
  f = facts chip

  -- one place more: its bit
  place_bit : (image : List ℕ) (j i : ℕ) → i < 8 → 8 * j + i < f.covered → (protected_in f image (8 * j + i) ⇒ 1 ⁏ 0) ≡ 1 - bit_of (byte image (f.bits + j)) i
  place_bit image j i h l =
      let k : ℕ = 8 * j + i in
      let q : k / 8 ≡ j = omega arith in
      let r : k % 8 ≡ i = omega arith in
      let b : ℕ = bit_of (byte image (f.bits + j)) i in
      ap (λ (x : Bool). x ⇒ 1 ⁏ 0)
      (protected_covered f.bits f.covered image k l ∙ ap₂ (λ (x y : ℕ). bit_of (byte image (f.bits + x)) y is 0) q r)
      ∙ either (λ (n : ℕ). n ≡ 1 - b) (b is 0) (λ e. omega (arith, eqb-true b 0 e)) (λ e. omega (arith, eqb-false b 0 e))

  -- i places from a protection byte's first on: its i lowest bits
  places_in : (image : List ℕ) (j i : ℕ) → i ≤ 8 → 8 * j + i ≤ f.covered → places f image (8 * j + i) ≡ places f image (8 * j) + zero_bits i (byte image (f.bits + j))
  unfolding places zero_bits
  places_in image j zero h l = let e : 8 * j + 0 ≡ 8 * j = omega arith in omega (arith, ap (places f image) e)
  places_in image j (suc i) h l =
      let e : 8 * j + suc i ≡ suc (8 * j + i) = omega arith in
      omega (
        arith,
        ap (places f image) e,
        place_bit image j i (omega arith) (omega arith),
        places_in image j i (omega arith) (omega arith),
        zeros_top i (byte image (f.bits + j)),
      )

  -- so many protection bytes: as many places as their zero bits
  places_of : (image : List ℕ) (n : ℕ) → 8 * n ≤ f.covered → f.bits + n ≤ length image → places f image (8 * n) ≡ zeros_of (take n (drop f.bits image))
  unfolding places zeros_of
  places_of image zero h l = refl
  places_of image (suc n) h l =
      let e : 8 * suc n ≡ 8 * n + 8 = omega arith in
      let part : List ℕ = drop f.bits image in
      let last : take (suc n) part ≡ take n part ++ (byte image (f.bits + n) ∷ []) =
      take-suc part n 0 (omega (arith, length-drop f.bits image)) ∙ ap (λ (x : ℕ). take n part ++ (x ∷ [])) (get_or-drop f.bits image n 0) in
      omega (
        arith,
        ap (places f image) e,
        places_in image n 8 (omega arith) (omega arith),
        places_of image n (omega arith) (omega arith),
        ap zeros_of last,
        zeros_more (take n part) (byte image (f.bits + n)),
      )

  -- "number of protected bytes": the number that is counted is how many bytes are protected
  pub count_is_places : (image : List ℕ) → length image ≡ f.size → count_in f image ≡ places f image f.covered
  unfolding protected_count
  count_is_places image long =
      let n : ℕ = f.covered / 8 in
      let e : 8 * n ≡ f.covered = omega (arith, (laid chip).words) in
      sym (places_of image n (omega (arith, (laid chip).words)) (omega (arith, long, (laid chip).guards))) ∙ ap (places f image) e

  -- ---- what D1 adds
  -- what leaves the bytes of a range and whether they are protected leaves what D1 would add
  newly_same : (image image' : List ℕ) (k : ℕ) (b : List ℕ) → ((j : ℕ) → k ≤ j → j < k + length b → byte image' j ≡ byte image j)
      → ((j : ℕ) → k ≤ j → protected_in f image' j ≡ protected_in f image j) → newly f image' k b ≡ newly f image k b
  unfolding newly
  newly_same image image' k [] same bits = refl
  newly_same image image' k (v ∷ b) same bits =
      ap₂ (λ (x y : ℕ). x + y)
      (ap₂ (λ (x : ℕ) (p : Bool). one_new x v p) (same k (omega arith) (omega arith)) (bits k (omega arith)))
      (newly_same image image' (k + 1) b (λ j h l. same j (omega arith) (omega arith)) (λ j h. bits j (omega arith)))

  -- one byte
  one_more : (image : List ℕ) (k v : ℕ) → k < f.covered → length image ≡ f.size
      → count_in f (byte image k is v ⇒ protecting f.bits f.covered image k ⁏ image) ≡ count_in f image + one_new (byte image k) v (protected_in f image k)
  one_more image k v h long =
      let b : ℕ = bit_of (byte image (f.bits + k / 8)) (k % 8) in
      either (λ (x : List ℕ). count_in f x ≡ count_in f image + one_new (byte image k) v (protected_in f image k)) (byte image k is v)
      (λ e.
      let bit : one_new (byte image k) v (protected_in f image k) ≡ b =
      ap (λ (x : Bool). x ⇒ 1 ⁏ 0) (sym (and_holds e refl) ∙ ap not (protected_covered f.bits f.covered image k h))
      ∙ either (λ (n : ℕ). n ≡ b) (not (b is 0)) (λ q. omega (arith, eqb-false b 0 (not-true _ q))) (λ q. omega (arith, eqb-true b 0 (not-false _ q))) in
      omega (arith, bit, count_protecting f.bits f.covered image k h (omega (arith, (laid chip).words)) (omega (arith, long, (laid chip).guards))))
      (λ e. omega (arith, rest {A = ℕ} 1 0 (sym (and_fails (not (protected_in f image k)) e))))

  -- D1 adds exactly the bytes that were not protected before
  pub protect_adds : (image : List ℕ) (k : ℕ) (b : List ℕ) → k + length b ≤ f.covered → length image ≡ f.size
      → count_in f (protect_equal f.bits f.covered image k b) ≡ count_in f image + newly f image k b
  unfolding protect_equal newly
  protect_adds image k [] h long = omega arith
  protect_adds image k (v ∷ b) h long =
      let image' : List ℕ = byte image k is v ⇒ protecting f.bits f.covered image k ⁏ image in
      let kept : length image' ≡ length image = either (λ (l : List ℕ). length l ≡ length image) _ (λ _. length_protecting f.bits f.covered image k) (λ _. refl) in
      let front : f.covered ≤ f.bits = omega (arith, (laid chip).kept, (laid chip).behind) in
      let same : newly f image' (k + 1) b ≡ newly f image (k + 1) b =
      newly_same image image' (k + 1) b
      (λ j q l. byte_protect_equal f.bits f.covered image k (v ∷ []) j (inl (omega arith)))
      (λ j q. either (λ (l : List ℕ). protected_in f l j ≡ protected_in f image j) _
      (λ _. protected_same f.bits f.covered image _ j (bit_protecting f.bits f.covered image k j (λ e. omega arith))) (λ _. refl)) in
      omega (arith, protect_adds image' (k + 1) b (omega arith) (kept ∙ long), one_more image k v (omega arith) long, same)

-- ---- one message
module _ (chip : Chip) (s : Slot) (image : List ℕ) (holds : s.holds ≡ Some chip) where
  abbrev g : Facts
  g = facts chip

  order_adds : IsCard g image → (b : List ℕ) (o : Result Order Status) → Fit g b o → count_in g (image_by g s image b o) ≡ count_in g image + added_by g image b o
  unfolding image_by
  order_adds c b (Err status) h = omega arith
  order_adds c b (Ok Order.Select) h = omega arith
  order_adds c b (Ok (Order.Page p)) h = omega arith
  order_adds c b (Ok (Order.Read at n)) h = omega arith
  order_adds c b (Ok (Order.Counter n)) h = omega arith
  order_adds c b (Ok (Order.Bits at n)) h = omega arith
  order_adds c b (Ok (Order.Write at)) h = omega (arith, count_written chip s image b s.page at h.0)
  order_adds c b (Ok (Order.Protect at)) h = protect_adds chip image at b (omega (arith, h.0, (laid chip).reached)) c.long
  order_adds c b (Ok Order.Present) h = omega (arith, count_presented chip s image b)
  order_adds c b (Ok Order.Change) h = omega (arith, count_changed chip s image b h.1)

  module _ (m : Sent) where
    abbrev d : List ℕ
    d = apdu m.message

    deed_adds : (r : Request) → IsCard g image
        → count_in g (deed r (Some chip) s image m.message).image ≡ count_in g image + (transfers r ⇒ added_by g image (body d) (order g s d) ⁏ 0)
    unfolding deed commanded performed ◌⇒◌⁏◌
    deed_adds SetParameters c = omega arith
    deed_adds PowerOn c = omega arith
    deed_adds PowerOff c = omega arith
    deed_adds SlotStatus c = omega arith
    deed_adds GetParameters c = omega arith
    deed_adds ResetParameters c = omega arith
    deed_adds Transfer c = order_adds c (body d) (order g s d) (order_fits g s d)
    deed_adds Unsupported c = omega arith

    -- what is not heard adds none
    unheard : heard s image m ≡ false → count_in g image ≡ count_in g image + added g s image m
    unfolding added
    unheard h = omega (arith, rest {A = ℕ} (added_by g image (body d) (order g s d)) 0 (sym (and_fails (transfers (requested m)) h)))

    came_adds : {o : Outcome} → Came s image m o → count_in g o.image ≡ count_in g image + added g s image m
    unfolding added
    came_adds (down r h) = unheard h
    came_adds (failed p h) = unheard h
    came_adds (obeyed h) =
        subst⁻¹ (λ (x : Option Chip). count_in g (deed (requested m) x s image m.message).image ≡ count_in g image + (transfers (requested m) ⇒ added_by g image (body d) (order g s d) ⁏ 0)) holds
        (deed_adds (requested m) (proper_card chip s image holds (heard_proper s image m h)))
        ∙ ap (λ (b : Bool). count_in g image + (b ⇒ added_by g image (body d) (order g s d) ⁏ 0)) (and_holds h refl)

    -- the number of protected bytes in the image grows by what D1 adds
    pub message_adds : count_in g (sending s image m).image ≡ count_in g image + added g s image m
    message_adds = came_adds (came s image m)

-- ---- a run: from any slot with the card in it, any image and any messages
pub run_adds : (chip : Chip) (s : Slot) (image : List ℕ) (ms : List Sent) → s.holds ≡ Some chip
    → count_in (facts chip) (run s image ms).image ≡ count_in (facts chip) image + added_in (facts chip) s image ms
unfolding run added_in
run_adds chip s image [] h = omega arith
run_adds chip s image (m ∷ ms) h =
    let o : Outcome = sending s image m in
    omega (arith, run_adds chip o.slot o.image ms (exchange_holds s image m.message m.room ∙ h), message_adds chip s image h m)

-- ---- both counts are the image's own
proper_counted : (s : Slot) (image : List ℕ) → Proper s image → Counted s image
proper_counted s image p = (sound_parts s image p.sound).counts

-- after an insertion that is accepted,
pub insertion_counted : (s : Slot) (kind : ℕ) (image : List ℕ) → (insertion s kind image).number ≡ 0 → Counted (insertion s kind image).slot image
insertion_counted s kind image e =
    subst (Counted (insertion s kind image).slot) (insertion_inserts s kind image).same (proper_counted _ _ (insertion_proper s kind image e))

-- after a removal, beside every image,
pub removed_counted : (image : List ℕ) → Counted removed image
removed_counted image = proper_counted removed image (removed_proper image)

-- and after every message that is answered, whatever slot and image it met
pub answered_counted : (s : Slot) (image m : List ℕ) (room : ℕ) → (exchange s image m room).number ≡ 0 → Counted (exchange s image m room).slot (exchange s image m room).image
answered_counted s image m room e = proper_counted _ _ (answered_proper s image m room e)

-- ---- what is shown after a run
module _ (chip : Chip) (s : Slot) (image : List ℕ) (holds : s.holds ≡ Some chip) (p : Proper s image) where
  module _ (ms : List Sent) where
    abbrev u : Run
    u = run s image ms

    now_proper : Proper u.slot u.image
    now_proper = run_proper s image ms p

    now_holds : u.slot.holds ≡ Some chip
    now_holds = run_holds s image ms ∙ holds

    now_counted : Counted u.slot u.image
    now_counted = proper_counted u.slot u.image now_proper

    pub run_shown : Shown (facts chip) s image ms u.slot.tries u.slot.protected
    run_shown = record {
      tries = λ c.
          now_counted.tries ∙ ap (λ (h : Option Chip). tries_of h u.image) now_holds ∙ tries_card chip u.image c ∙ tries_left_lem chip c s image ms holds;
      codeless = λ c. now_counted.tries ∙ ap (λ (h : Option Chip). tries_of h u.image) now_holds ∙ rest _ _ c;
      protected =
          now_counted.protected
          ∙ ap (λ (h : Option Chip). protected_of h u.image) now_holds
          ∙ protected_card chip u.image (proper_card chip u.slot u.image now_holds now_proper).long
          ∙ run_adds chip s image ms holds;
    }

  -- by calls of `card_reader_message`: bytes 13 to 15 of the record
  pub calls_shown : {r start : List ℕ} → r ≡ raw_of s → start ≡ image → {ms : List Sent} {r' image' : List ℕ} → Called r start ms r' image'
      → Shown (facts chip) s image ms (tries_shown r') (protected_shown r')
  unfolding raw_of low_first
  calls_shown written same {ms} {r'} calls =
      let e : r' ≡ raw_of (run s image ms).slot = (called_run calls s image written same).0 in
      let n : ℕ = (run s image ms).slot.protected in
      let two : n % 256 + 256 * (n / 256) ≡ n = omega arith in
      subst⁻¹ (λ (r : List ℕ). Shown (facts chip) s image ms (tries_shown r) (protected_shown r)) e
      (subst⁻¹ (Shown (facts chip) s image ms (run s image ms).slot.tries) two (run_shown ms))

  -- and by `sitting::perform`
  pub sittings_shown : {before : Held} {had : List ℕ} → before.slot ≡ s → take before.size had ≡ image → {ms : List Sent} {held : Held} {left : List ℕ}
      → Sat before had ms held left → Shown (facts chip) s image ms held.slot.tries held.slot.protected
  sittings_shown e i {ms} sits =
      subst⁻¹ (λ (t : Slot). Shown (facts chip) s image ms t.tries t.protected) (sat_run sits s image e i).0 (run_shown ms)

-- ---- from the insertion on
-- a card of any kind just inserted and left in: what the screen shows after any run of messages
pub shown_from : (chip : Chip) (s : Slot) (kind : ℕ) (image : List ℕ) → chip_of kind ≡ Some chip → (insertion s kind image).number ≡ 0 → (ms : List Sent)
    → let put = insertion s kind image in Shown (facts chip) put.slot put.image ms (run_from s kind image ms).slot.tries (run_from s kind image ms).slot.protected
shown_from chip s kind image known e ms =
    let put = insertion s kind image in
    run_shown chip put.slot put.image (ap (λ (t : Slot). t.holds) (put_in_slot chip s kind image known e)) (insertion_proper s kind image e) ms

-- so by calls: the card was put in by `card_reader_insert`, which returned 0
pub calls_shown_from : (chip : Chip) (kind : ℕ) (r image : List ℕ) → chip_of kind ≡ Some chip → {left : List ℕ} → Returns (raw_insertion r kind image) (pos 0) left image [] []
    → {ms : List Sent} {r' image' : List ℕ} → Called left image ms r' image'
    → let put = insertion removed kind image in Shown (facts chip) put.slot put.image ms (tries_shown r') (protected_shown r')
calls_shown_from chip kind r image known returns calls =
    let put = insertion removed kind image in
    let p = call_inserts kind r image returns in
    calls_shown chip put.slot put.image (ap (λ (t : Slot). t.holds) (put_in_slot chip removed kind image known p.0)) (insertion_proper removed kind image p.0)
    p.1 (sym (put_image chip removed kind image)) calls

-- and by records: it was put in by `sitting::perform` with an insert record, which printed 0
pub sittings_shown_from : (chip : Chip) (h : Held) (had b : List ℕ) → chip_of (byte b 0) ≡ Some chip → {d : Done} {left was holds : List ℕ}
    → Leaves (outcome_of Mark.Insert b h.slot (take h.size had) least_room) d had left was holds → d.number ≡ 0 → {ms : List Sent} {held : Held} {later : List ℕ}
    → Sat d.held left ms held later
    → let put = insertion h.slot (byte b 0) (drop 1 b) in Shown (facts chip) put.slot put.image ms held.slot.tries held.slot.protected
sittings_shown_from chip h had b known leaves done sits =
    let put = insertion h.slot (byte b 0) (drop 1 b) in
    let e = record_accepted h had b leaves done in
    sittings_shown chip put.slot put.image (ap (λ (t : Slot). t.holds) (put_in_slot chip h.slot (byte b 0) (drop 1 b) known e))
    (insertion_proper h.slot (byte b 0) (drop 1 b) e) (held_slot h had b leaves done) (held_card h had b leaves done) sits
