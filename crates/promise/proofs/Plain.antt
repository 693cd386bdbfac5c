-- A card without a code is never open, and the image bytes that have to be 00h never change.
use Prim.Native.Nat.{ℕ, ◌≤◌}
use mathlib.Core.Path.{◌≡◌, refl, sym, ap, ◌∙◌, subst⁻¹}
use mathlib.Core.Bool.{Bool, true, false}
use mathlib.Core.List.{List, [], ◌∷◌}
use lib.ListN.{take}
use Rattle.std.specs.Prelude.{Option, Some}
use Rattle.words.specs.Bytes.{byte}
use Rattle.words.proofs.Choices.{and_fails, no_test}
use Rattle.words.proofs.Lists.{blank_byte}
use Rattle.chips.specs.declared.Chip.{Chip}
use Rattle.chips.specs.Kinds.{facts, chip_of}
use Rattle.slot.specs.declared.Slot.{Slot}
use Rattle.counts.specs.Counts.{put_in}
use Rattle.card.specs.Images.{is_card}
use Rattle.card.proofs.ImageLaws.{IsCard, card_parts}
use Rattle.sound.specs.Sound.{full_code, sound}
use Rattle.sound.proofs.SoundLaws.{sound_parts}
use Rattle.record.specs.Raw.{flag_of, raw_of}
use Rattle.steps.specs.Steps.{order, body}
use Rattle.steps.proofs.Decisions.{order_fits}
use Rattle.orders.specs.Orders.{performed, commanded}
use Rattle.orders.proofs.ImageKept.{zeros_kept}
use Rattle.faults.specs.declared.Request.{Request}
use Rattle.faults.specs.declared.Request.TheVariants.{SetParameters, PowerOn, PowerOff, SlotStatus, GetParameters, ResetParameters, Transfer, Unsupported}
use Rattle.faults.specs.Faults.{apdu}
use Rattle.frame.specs.Exchange.{Outcome, deed, insertion}
use Rattle.reader.specs.Runs.{Sent, sending, run}
use Rattle.reader.specs.Proper.{Proper}
use Rattle.reader.specs.Heard.{requested}
use Rattle.reader.proofs.Came.{Came, down, failed, obeyed, came, heard_proper}
use Rattle.reader.proofs.Kept.{proper_card, proper_kept, exchange_holds}
use Rattle.reader.proofs.Insertions.{Accepted, insertion_inserts}
use Rattle.sitting.specs.declared.Held.{Held}
use Rattle.promise.specs.Tries.{run_from}
use Rattle.promise.specs.Sequences.{Called, Sat}
use Rattle.promise.proofs.Sequences.{called_run, sat_run}

-- ---- a card of a kind just inserted
record Seated (chip : Chip) (image : List ℕ) (o : Outcome) : Type 0 where
  slot : o.slot ≡ put_in chip image
  same : o.image ≡ image
  card : IsCard (facts chip) image

seated : (chip : Chip) (s : Slot) (kind : ℕ) (image : List ℕ) → chip_of kind ≡ Some chip → (insertion s kind image).number ≡ 0 → Seated chip image (insertion s kind image)
seated chip s kind image known e =
    let i = insertion_inserts s kind image in
    let a : Accepted s kind image (insertion s kind image) = i.accepted e in
    let q : a.chip ≡ chip = same a.chip a.known in
    record { slot = a.slot ∙ ap (λ (c : Chip). put_in c image) q; same = i.same; card = card_parts (facts chip) image (ap (λ (c : Chip). is_card (facts c) image) (sym q) ∙ a.card) }
  where
    same : (c : Chip) → chip_of kind ≡ Some c → c ≡ chip
    same c h = cc

-- ---- never open
module _ (chip : Chip) (plain : (facts chip).coded ≡ false) where
  -- a code card with a full counter it is not
  not_full : (image : List ℕ) → full_code (Some chip) image ≡ false
  not_full image = sym (and_fails _ plain)

  -- a record that says open beside it is not sound: number 4
  pub open_unsound : (s : Slot) (image : List ℕ) → s.holds ≡ Some chip → s.«open» ≡ true → sound s image ≡ false
  open_unsound s image h o = go (sound s image) refl
    where
      go : (t : Bool) → sound s image ≡ t → t ≡ false
      go false e = refl
      go true e = no_test ((sound_parts s image e).sure o).0 (ap (λ (x : Option Chip). full_code x image) h ∙ not_full image)

  proper_shut : (s : Slot) (image : List ℕ) → s.holds ≡ Some chip → Proper s image → s.«open» ≡ false
  proper_shut s image h p = go s.«open» refl
    where
      go : (t : Bool) → s.«open» ≡ t → t ≡ false
      go false e = refl
      go true e = no_test p.sound (open_unsound s image h e)

  -- a message: answered, the next record is sound; turned down, it is as it came
  pub message_closed : (s : Slot) (image : List ℕ) (m : Sent) → s.holds ≡ Some chip → s.«open» ≡ false → (sending s image m).slot.«open» ≡ false
  message_closed s image m h shut = go (came s image m) (λ p. proper_shut _ _ (exchange_holds s image m.message m.room ∙ h) (proper_kept s image m.message m.room p))
    where
      go : {o : Outcome} → Came s image m o → (Proper s image → o.slot.«open» ≡ false) → o.slot.«open» ≡ false
      go (down r e) next = shut
      go (failed p e) next = shut
      go (obeyed e) next = next (heard_proper s image m e)

  -- a run
  pub closed_stays : (s : Slot) (image : List ℕ) (ms : List Sent) → s.holds ≡ Some chip → s.«open» ≡ false → (run s image ms).slot.«open» ≡ false
  unfolding run
  closed_stays s image [] h shut = shut
  closed_stays s image (m ∷ ms) h shut =
      closed_stays (sending s image m).slot (sending s image m).image ms (exchange_holds s image m.message m.room ∙ h) (message_closed s image m h shut)

  -- "Their slot record always says closed": from the insertion on
  pub never_open : (s : Slot) (kind : ℕ) (image : List ℕ) (ms : List Sent) → chip_of kind ≡ Some chip → (insertion s kind image).number ≡ 0
      → (run_from s kind image ms).slot.«open» ≡ false
  never_open s kind image ms known e =
      let p = seated chip s kind image known e in
      closed_stays (insertion s kind image).slot (insertion s kind image).image ms (ap (λ (t : Slot). t.holds) p.slot) (ap (λ (t : Slot). t.«open») p.slot)

  -- and so by calls: byte 4 of the raw record, and the slot that a sitting holds
  pub calls_closed : (s : Slot) (image : List ℕ) → s.holds ≡ Some chip → s.«open» ≡ false → {ms : List Sent} {r' image' : List ℕ} → Called (raw_of s) image ms r' image'
      → byte r' 4 ≡ 0
  unfolding raw_of
  calls_closed s image h shut {ms} calls =
      ap (λ (r : List ℕ). byte r 4) (called_run calls s image refl refl).0 ∙ ap flag_of (closed_stays s image ms h shut)

  pub sittings_closed : (s : Slot) (image : List ℕ) → s.holds ≡ Some chip → s.«open» ≡ false → {before : Held} {had : List ℕ} → before.slot ≡ s
      → take before.size had ≡ image → {ms : List Sent} {held : Held} {left : List ℕ} → Sat before had ms held left → held.slot.«open» ≡ false
  sittings_closed s image h shut p q {ms} sits = ap (λ (t : Slot). t.«open») (sat_run sits s image p q).0 ∙ closed_stays s image ms h shut

-- ---- the bytes that have to be 00h
module _ (chip : Chip) (k : ℕ) (tail : (facts chip).zeros ≤ k) where
  deed_zeros : (r : Request) (s : Slot) (image m : List ℕ) → IsCard (facts chip) image → byte (deed r (Some chip) s image m).image k ≡ byte image k
  unfolding deed commanded performed
  deed_zeros SetParameters s image m c = refl
  deed_zeros PowerOn s image m c = refl
  deed_zeros PowerOff s image m c = refl
  deed_zeros SlotStatus s image m c = refl
  deed_zeros GetParameters s image m c = refl
  deed_zeros ResetParameters s image m c = refl
  deed_zeros Transfer s image m c =
      zeros_kept chip s image (body (apdu m)) c.long (order (facts chip) s (apdu m)) (order_fits (facts chip) s (apdu m)) k tail
  deed_zeros Unsupported s image m c = refl

  pub message_zeros : (s : Slot) (image : List ℕ) (m : Sent) → s.holds ≡ Some chip → byte (sending s image m).image k ≡ byte image k
  message_zeros s image m h = go (came s image m)
    where
      go : {o : Outcome} → Came s image m o → byte o.image k ≡ byte image k
      go (down r e) = refl
      go (failed p e) = refl
      go (obeyed e) =
          subst⁻¹ (λ (x : Option Chip). byte (deed (requested m) x s image m.message).image k ≡ byte image k) h
          (deed_zeros (requested m) s image m.message (proper_card chip s image h (heard_proper s image m e)))

  -- "never change": a run, from any slot with the card in it and any image
  pub zeros_stay : (s : Slot) (image : List ℕ) (ms : List Sent) → s.holds ≡ Some chip → byte (run s image ms).image k ≡ byte image k
  unfolding run
  zeros_stay s image [] h = refl
  zeros_stay s image (m ∷ ms) h =
      zeros_stay (sending s image m).slot (sending s image m).image ms (exchange_holds s image m.message m.room ∙ h) ∙ message_zeros s image m h

  -- and 00h from the insertion on
  pub zeros_remain : (s : Slot) (kind : ℕ) (image : List ℕ) (ms : List Sent) → chip_of kind ≡ Some chip → (insertion s kind image).number ≡ 0
      → byte (run_from s kind image ms).image k ≡ 0
  zeros_remain s kind image ms known e =
      let p = seated chip s kind image known e in
      zeros_stay (insertion s kind image).slot (insertion s kind image).image ms (ap (λ (t : Slot). t.holds) p.slot)
      ∙ ap (λ (l : List ℕ). byte l k) p.same
      ∙ blank_byte image (facts chip).zeros k p.card.zeros tail

  -- and so by calls
  pub calls_zeros : (s : Slot) (image : List ℕ) → s.holds ≡ Some chip → {ms : List Sent} {r' image' : List ℕ} → Called (raw_of s) image ms r' image' → byte image' k ≡ byte image k
  calls_zeros s image h {ms} calls = ap (λ (l : List ℕ). byte l k) (called_run calls s image refl refl).1 ∙ zeros_stay s image ms h

  pub sittings_zeros : (s : Slot) (image : List ℕ) → s.holds ≡ Some chip → {before : Held} {had : List ℕ} → before.slot ≡ s → take before.size had ≡ image
      → {ms : List Sent} {held : Held} {left : List ℕ} → Sat before had ms held left → byte (take held.size left) k ≡ byte image k
  sittings_zeros s image h p q {ms} sits = ap (λ (l : List ℕ). byte l k) (sat_run sits s image p q).1 ∙ zeros_stay s image ms h
