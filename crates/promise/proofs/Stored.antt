-- A D0 on a card with protection bits stores every unprotected byte of its range and leaves every other byte of the image; it is answered 90 00
-- exactly where the range then reads back as the data, else 65 81. On a card without bits it is answered 90 00.
use Rattle.std.specs.Prelude.{Result, Ok}
use Prim.Native.Nat.{ℕ, suc, ◌+◌, ◌≤◌, ◌<◌}
use mathlib.Core.Path.{◌≡◌, refl, sym, ap, ap₂, ◌∙◌, subst, subst⁻¹}
use mathlib.Core.Bool.{Bool, true, false}
use mathlib.Core.List.{List, [], ◌∷◌}
use native.Mathlib.Nat.{add-zero}
use native.Mathlib.Omega.{arith}
use lib.ListN.{length, take}
use lib.IntN.{ℤ}
use borrow.Author.Tests.{eq-eqb, ne_eqb}
use Rattle.std.specs.Prelude.{Some}
use Rattle.words.specs.Choice.{◌⇒◌⁏◌, ◌and◌, ◌means◌, ◌is◌}
use Rattle.words.specs.Bytes.{byte, over}
use Rattle.words.specs.Bounds.{least_room}
use Rattle.words.proofs.Choices.{first, or_taken, or_passed}
use Rattle.records.specs.declared.Mark.{Mark}
use Rattle.chips.specs.declared.Chip.{Chip}
use Rattle.chips.specs.declared.Facts.{Facts}
use Rattle.chips.specs.Kinds.{facts}
use Rattle.chips.proofs.KindLaws.{laid, bitted}
use Rattle.slot.specs.declared.Slot.{Slot}
use Rattle.card.proofs.ImageLaws.{IsCard}
use Rattle.record.specs.Raw.{raw_of}
use Rattle.stores.specs.Stores.{storing, ends_equal}
use Rattle.stores.proofs.StoreLaws.{ends_back, length_storing, byte_passed, byte_sent, byte_storing}
use Rattle.steps.specs.declared.Status.{Status}
use Rattle.steps.specs.declared.Order.{Order}
use Rattle.steps.specs.Fits.{Fit}
use Rattle.steps.proofs.Decisions.{order_fits}
use Rattle.orders.specs.Orders.{done, unequal, reported, written_word, said_by, image_by, slot_by, performed}
use Rattle.orders.proofs.ImageKept.{written_stores}
use Rattle.std.specs.Prelude.{None}
use Rattle.faults.specs.declared.Request.TheVariants.{Transfer}
use Rattle.faults.specs.Faults.{apdu}
use Rattle.frame.specs.Answers.{answer}
use Rattle.frame.specs.Exchange.{Outcome, answered}
use Rattle.reader.specs.Runs.{Sent, sending}
use Rattle.reader.proofs.Came.{heard_proper}
use Rattle.reader.proofs.Kept.{proper_card}
use Rattle.calls.specs.Calls.{RawOutcome, raw_exchange, Returns}
use Rattle.sitting.specs.declared.Held.{Held}
use Rattle.sitting.specs.declared.Done.{Done}
use Rattle.sitting.specs.Sittings.{outcome_of, Leaves}
use Rattle.promise.specs.Protected.{protected_in}
use Rattle.promise.specs.Stored.{Writes, sent_by, place_after, reads_back, protected_equal, Stored, word_told}
use Rattle.promise.proofs.Reached.{transfer_does}
use Rattle.promise.proofs.Sequences.{raw_exchange_is, call_image, sitting_sends, sitting_image}

-- ---- when the range ends equal, told from the image before
-- in an image whose every place of the range is the byte sent or, where it is protected, the one before
ends_protected : (f : Facts) (image now : List ℕ) (k : ℕ) (vs : List ℕ)
    → ((j : ℕ) → j < length vs → byte now (k + j) ≡ (protected_in f image (k + j) ⇒ byte image (k + j) ⁏ byte vs j))
    → ends_equal now k vs ≡ protected_equal f image k vs
unfolding ends_equal protected_equal ◌means◌ ◌⇒◌⁏◌
ends_protected f image now k [] h = refl
ends_protected f image now k (v ∷ vs) h =
    ap₂ ◌and◌
    (here (protected_in f image k) (subst (λ (n : ℕ). byte now n ≡ (protected_in f image n ⇒ byte image n ⁏ v)) (add-zero k) (h 0 (omega arith))))
    (ends_protected f image now (k + 1) vs (λ j l. subst (λ (n : ℕ). byte now n ≡ (protected_in f image n ⇒ byte image n ⁏ byte vs j)) (next j) (h (suc j) (omega arith))))
  where
    here : (b : Bool) → byte now k ≡ (b ⇒ byte image k ⁏ v) → byte now k is v ≡ (b means byte image k is v)
    here true e = ap (λ (n : ℕ). n is v) e
    here false e = eq-eqb _ _ e

    next : (j : ℕ) → k + suc j ≡ k + 1 + j
    next j = omega arith

-- ---- one message
module _ (chip : Chip) (s : Slot) (image : List ℕ) (m : Sent) (at : ℕ) (holds : s.holds ≡ Some chip) (w : Writes (facts chip) s image m at) where
  abbrev f : Facts
  f = facts chip

  abbrev b : List ℕ
  b = sent_by m

  -- what comes of it
  pub write_does : sending s image m ≡ answered Transfer m.message None (performed f s image b (Ok (Order.Write at)))
  write_does = transfer_does chip s image m holds w.is_heard w.asked ∙ ap (λ (o : Result Order Status). answered Transfer m.message None (performed f s image b o)) w.ends

  pub write_card : IsCard f image
  write_card = proper_card chip s image holds (heard_proper s image m w.is_heard)

  pub write_inside : at + length b ≤ f.memory
  write_inside = (subst (Fit f b) w.ends (order_fits f s (apdu m.message))).0

  -- the slot record stays
  pub message_stays : (sending s image m).slot ≡ s
  unfolding performed slot_by
  message_stays = ap (λ (o : Outcome). o.slot) write_does

  -- "I2C always answers 90 00"
  pub message_done : f.covered ≡ 0 → (sending s image m).answer ≡ answer Transfer m.message None s done
  unfolding performed said_by slot_by written_word
  message_done e =
      ap (λ (o : Outcome). o.answer) write_does ∙ ap (answer Transfer m.message None s) (first _ _ (sym (or_taken _ (eq-eqb _ 0 e))))

  module _ (bits : 0 < f.covered) where
    abbrev after : List ℕ
    after = storing f.bits f.covered image at b

    stored : (sending s image m).image ≡ after
    unfolding performed image_by
    stored = ap (λ (o : Outcome). o.image) write_does ∙ written_stores f s image b (bitted chip bits).pageless s.page at

    -- what is before the protection bytes, and in the image
    before : at + length b ≤ f.bits
    before = omega (arith, write_inside, (laid chip).behind)

    within : at + length b ≤ length image
    within = omega (arith, write_inside, (laid chip).front, write_card.long)

    long : length after ≡ length image
    long = length_storing f.bits f.covered image at b

    ends : ends_equal after at b ≡ reads_back after at b
    ends = ends_back after at b (omega (arith, within, long))

    held : (j : ℕ) → j < length b → (t : Bool) → protected_in f image (at + j) ≡ t → byte after (at + j) ≡ (t ⇒ byte image (at + j) ⁏ byte b j)
    unfolding ◌⇒◌⁏◌
    held j l true e = byte_passed f.bits f.covered image at b (at + j) before e
    held j l false e = byte_sent f.bits f.covered image at b j before within l e

    pub message_stored : Stored f image at b (sending s image m).image
    unfolding place_after
    message_stored = subst⁻¹ (Stored f image at b) stored (record {
      place = λ k. byte_storing f.bits f.covered image at b k before within;
      back = sym ends ∙ ends_protected f image after at b (λ j l. held j l (protected_in f image (at + j)) refl);
    })

    -- "when some byte ended different on a card with protection bits the answer is 65 81"
    pub message_told : (sending s image m).answer ≡ word_told s m at (sending s image m).image
    unfolding performed said_by slot_by written_word
    message_told =
        let says : Bool → List ℕ = λ t. answer Transfer m.message None s (t ⇒ done ⁏ unequal) in
        ap (λ (o : Outcome). o.answer) write_does
        ∙ ap (λ (l : List ℕ). says (reported f l at b)) (written_stores f s image b (bitted chip bits).pageless s.page at)
        ∙ ap says (sym (or_passed (ne_eqb f.covered 0 (λ e. omega arith)) refl) ∙ ends)
        ∙ ap (word_told s m at) (sym stored)

    -- ---- and so by a call of `card_reader_message`, and by `sitting::perform`
    pub call_stored : {n : ℤ} {left next was holds : List ℕ} → Returns (raw_exchange (raw_of s) image m.message m.room) n left next was holds
        → (left ≡ raw_of s) × Stored f image at b next × (holds ≡ over (word_told s m at next) was)
    call_stored {next = next} {was = was} g =
        let e = raw_exchange_is s image m.message m.room in
        let same : next ≡ (sending s image m).image = call_image s image m g in (
          g.raw ∙ ap (λ (o : RawOutcome). o.raw) e ∙ ap raw_of message_stays,
          subst⁻¹ (Stored f image at b) same message_stored,
          g.buffer ∙ ap (λ (o : RawOutcome). over o.answer was) e ∙ ap (λ (a : List ℕ). over a was) (message_told ∙ ap (word_told s m at) (sym same)),
        )

    pub sitting_stored : (before : Held) (had : List ℕ) → before.slot ≡ s → take before.size had ≡ image → m.room ≡ least_room
        → {d : Done} {left was holds : List ℕ} → Leaves (outcome_of Mark.Message m.message before.slot (take before.size had) least_room) d had left was holds
        → (d.held.slot ≡ s) × Stored f image at b (take d.held.size left) × (holds ≡ over (word_told s m at (take d.held.size left)) was)
    sitting_stored h had p q room {d} {left = left} {was = was} g =
        let e = sitting_sends h had s image m p q room in
        let same : take d.held.size left ≡ (sending s image m).image = sitting_image h had s image m p q room g in (
          g.slot ∙ ap (λ (o : Outcome). o.slot) e ∙ message_stays,
          subst⁻¹ (Stored f image at b) same message_stored,
          g.buffer ∙ ap (λ (o : Outcome). over o.answer was) e ∙ ap (λ (a : List ℕ). over a was) (message_told ∙ ap (word_told s m at) (sym same)),
        )
