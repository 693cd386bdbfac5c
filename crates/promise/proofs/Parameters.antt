-- What 61h took, 6Ch tells; and the default returns exactly on reset, power on, insertion and removal: no other message changes the parameters.
use Prim.Native.Nat.{ℕ}
use mathlib.Core.Path.{◌≡◌, refl, sym, ap, ap₂, ◌∙◌}
use mathlib.Core.Bool.{true, false≢true}
use mathlib.Core.List.{List, [], ◌∷◌}
use Rattle.std.specs.Prelude.{Option, Some, None}
use Rattle.words.specs.Choice.{◌⇒◌⁏◌}
use Rattle.words.specs.Bytes.{AllBytes, byte, over}
use Rattle.words.specs.Bounds.{least_room}
use Rattle.words.proofs.Numbers.{are_bytes, are_bytes_lem}
use lib.ListN.{take, replicate}
use lib.IntN.{ℤ}
use Rattle.words.proofs.Choices.{first, rest, and_true, same_choice}
use Rattle.chips.specs.Kinds.{facts}
use Rattle.chips.specs.declared.Chip.TheVariants.{Sle4442}
use Rattle.sets.specs.Sets.{default_set, protocol_of, bytes_of, set_of}
use Rattle.sets.proofs.SetLaws.{named_protocol, named_bytes}
use Rattle.slot.specs.declared.Slot.{Slot}
use Rattle.slot.specs.Slots.{occupied, inserted, removed}
use Rattle.steps.specs.Steps.{order, body}
use Rattle.orders.specs.Orders.{performed, commanded}
use Rattle.orders.proofs.SlotKept.{slot_by_set}
use Rattle.std.specs.Prelude.{Option, None}
use Rattle.faults.specs.declared.Fault.{Fault}
use Rattle.faults.specs.declared.Request.{Request}
use Rattle.faults.specs.declared.Request.TheVariants.{SetParameters, PowerOn, PowerOff, SlotStatus, GetParameters, ResetParameters, Transfer, Unsupported}
use Rattle.faults.specs.Faults.{apdu, ready, bad_field}
use Rattle.frame.specs.Answers.{answer, byte9, b_status}
use Rattle.frame.specs.Exchange.{Outcome, deed, answered, exchange, insertion}
use Rattle.reader.specs.Runs.{Sent, Run, sending, run}
use Rattle.reader.specs.Rules.{rules}
use Rattle.reader.specs.Heard.{requested, faulted, heard}
use Rattle.faults.proofs.ClearLaws.{clear_is, clear_field, clear_ready}
use Rattle.reader.proofs.Came.{Came, down, failed, obeyed, came, heard_clear}
use Rattle.reader.proofs.Insertions.{insertion_inserts}
use Rattle.promise.proofs.Reached.{heard_does}
use Rattle.vectors.specs.Sessions.{lent, transfer, image4442, wrong4442}
use Rattle.record.specs.Raw.{raw_of}
use Rattle.records.specs.declared.Mark.{Mark}
use Rattle.sitting.specs.declared.Held.{Held}
use Rattle.sitting.specs.declared.Done.{Done}
use Rattle.sitting.specs.Sittings.{outcome_of, Leaves}
use Rattle.calls.specs.Calls.{RawOutcome, raw_exchange, Returns}
use Rattle.promise.specs.Sequences.{Called, Sat}
use Rattle.promise.proofs.Sequences.{raw_exchange_is, called_run, sat_run}
use Rattle.promise.specs.Parameters.{set_by, set_after, leaves_set, all_leave, tells_set}
use Rattle.chips.specs.declared.Chip.{Chip}

-- ---- which message changes them
deed_set : (r : Request) (h : Option Chip) (s : Slot) (image m : List ℕ) → s.holds ≡ h → ready r s ≡ true → (deed r h s image m).slot.set ≡ set_by r m s.set
unfolding deed commanded performed
deed_set SetParameters h s image m e on = refl
deed_set PowerOn None s image m e on = absurd (false≢true (sym (ap occupied e) ∙ on))
deed_set PowerOn (Some chip) s image m e on = refl
deed_set PowerOff h s image m e on = refl
deed_set SlotStatus h s image m e on = refl
deed_set GetParameters h s image m e on = refl
deed_set ResetParameters h s image m e on = refl
deed_set Transfer None s image m e on = refl
deed_set Transfer (Some chip) s image m e on = slot_by_set (facts chip) s image (body (apdu m)) (order (facts chip) s (apdu m))
deed_set Unsupported h s image m e on = refl

module _ (s : Slot) (image : List ℕ) (m : Sent) where
  came_set : {o : Outcome} → Came s image m o → o.slot.set ≡ set_after s image m
  unfolding set_after
  came_set (down r e) = sym (rest _ _ e)
  came_set (failed p e) = sym (rest _ _ e)
  came_set (obeyed e) =
      deed_set (requested m) s.holds s image m.message refl (clear_ready (requested m) s m.message (heard_clear s image m e)) ∙ sym (first _ _ e)

  -- any message, whatever it meets
  pub set_after_lem : (sending s image m).slot.set ≡ set_after s image m
  set_after_lem = came_set (came s image m)

  -- a message but 61h, 62h, 6Dh leaves them
  by_leaver : (r : Request) (t : ℕ) → leaves_set r ≡ true → set_by r m.message t ≡ t
  by_leaver SetParameters t e = absurd (false≢true e)
  by_leaver PowerOn t e = absurd (false≢true e)
  by_leaver PowerOff t e = refl
  by_leaver SlotStatus t e = refl
  by_leaver GetParameters t e = refl
  by_leaver ResetParameters t e = absurd (false≢true e)
  by_leaver Transfer t e = refl
  by_leaver Unsupported t e = refl

  pub leaver_leaves : leaves_set (requested m) ≡ true → (sending s image m).slot.set ≡ s.set
  unfolding set_after
  leaver_leaves e = set_after_lem ∙ same_choice (heard s image m) (by_leaver (requested m) s.set e)

-- a card put in, and one taken out
pub insertion_default : (s : Slot) (kind : ℕ) (image : List ℕ) → (insertion s kind image).number ≡ 0 → (insertion s kind image).slot.set ≡ default_set
insertion_default s kind image e =
    ap (λ (t : Slot). t.set) ((insertion_inserts s kind image).accepted e).slot

pub removal_default : removed.set ≡ default_set
removal_default = refl

-- ---- what 61h took, 6Ch tells
run_leaves : (s : Slot) (image : List ℕ) (ms : List Sent) → all_leave ms ≡ true → (run s image ms).slot.set ≡ s.set
unfolding run all_leave
run_leaves s image [] e = refl
run_leaves s image (m ∷ ms) e =
    let u = and_true _ _ e in
    run_leaves (sending s image m).slot (sending s image m).image ms u.1 ∙ leaver_leaves s image m u.0

-- GetParameters tells what stands
pub get_tells : (s : Slot) (image : List ℕ) (g : Sent) → requested g ≡ GetParameters → heard s image g ≡ true
    → (sending s image g).answer ≡ tells_set g.message s (protocol_of s.set) (bytes_of s.set)
unfolding deed answer byte9 b_status ◌⇒◌⁏◌
get_tells s image g e h =
    let clear : faulted s g ≡ None = clear_is (faulted s g) (heard_clear s image g h) in
    let done : Request → Option Fault → List ℕ = λ r f. (answered r g.message f (deed r s.holds s image g.message)).answer in
    ap (λ (o : Outcome). o.answer) (heard_does s image g h)
    ∙ ap (done (requested g)) clear
    ∙ ap (λ (r : Request). done r None) e

-- SetParameters stores what it names
set_stored : (s : Slot) (image : List ℕ) (m : Sent) → requested m ≡ SetParameters → heard s image m ≡ true → (sending s image m).slot.set ≡ set_of m.message
unfolding set_after
set_stored s image m e h = set_after_lem s image m ∙ first _ _ h ∙ ap (λ (r : Request). set_by r m.message s.set) e

-- After a SetParameters message that was heard and any messages but 61h, 62h, 6Dh, a GetParameters message that is heard is answered with
-- exactly its protocol number and its bytes.
pub took_told : (s : Slot) (image : List ℕ) (m : Sent) (ms : List Sent) (g : Sent) → AllBytes m.message
    → requested m ≡ SetParameters → heard s image m ≡ true → all_leave ms ≡ true
    → let u = run (sending s image m).slot (sending s image m).image ms in
    requested g ≡ GetParameters → heard u.slot u.image g ≡ true
    → (sending u.slot u.image g).answer ≡ tells_set g.message u.slot (byte m.message 7) (apdu m.message)
took_told s image m ms g b e h l k n =
    let u = run (sending s image m).slot (sending s image m).image ms in
    let stands : u.slot.set ≡ set_of m.message = run_leaves (sending s image m).slot (sending s image m).image ms l ∙ set_stored s image m e h in
    let field : bad_field SetParameters m.message ≡ None =
    ap (λ (r : Request). bad_field r m.message) (sym e) ∙ clear_field (requested m) s m.message (heard_clear s image m h) in
    get_tells u.slot u.image g k n
    ∙ ap₂ (tells_set g.message u.slot) (ap protocol_of stands ∙ named_protocol m.message b) (ap bytes_of stands ∙ named_bytes m.message b field)

-- ---- and so by calls: what stands in the answer buffer after a call of `card_reader_message`, or after `sitting::perform`
module _ (s : Slot) (image : List ℕ) (m : Sent) (ms : List Sent) (g : Sent) (b : AllBytes m.message) (e : requested m ≡ SetParameters)
    (h : heard s image m ≡ true) (l : all_leave ms ≡ true) where
  abbrev lastly : Run
  lastly = run s image (m ∷ ms)

  pub calls_told : {r' image' : List ℕ} → Called (raw_of s) image (m ∷ ms) r' image' → requested g ≡ GetParameters → heard lastly.slot lastly.image g ≡ true
      → {n : ℤ} {left next was holds : List ℕ} → Returns (raw_exchange r' image' g.message g.room) n left next was holds
      → holds ≡ over (tells_set g.message lastly.slot (byte m.message 7) (apdu m.message)) was
  unfolding run
  calls_told {r'} {image'} calls k n {was = was} given =
      let c = called_run calls s image refl refl in
      let met = ap₂ (λ (r i : List ℕ). (raw_exchange r i g.message g.room).answer) c.0 c.1 in
      let told = ap (λ (o : RawOutcome). o.answer) (raw_exchange_is lastly.slot lastly.image g.message g.room) in
      given.buffer ∙ ap (λ (a : List ℕ). over a was) (met ∙ told ∙ took_told s image m ms g b e h l k n)

  pub sittings_told : {before : Held} {had : List ℕ} → before.slot ≡ s → take before.size had ≡ image → {held : Held} {stored : List ℕ}
      → Sat before had (m ∷ ms) held stored → g.room ≡ least_room → requested g ≡ GetParameters → heard lastly.slot lastly.image g ≡ true
      → {d : Done} {left was holds : List ℕ} → Leaves (outcome_of Mark.Message g.message held.slot (take held.size stored) least_room) d stored left was holds
      → holds ≡ over (tells_set g.message lastly.slot (byte m.message 7) (apdu m.message)) was
  unfolding run outcome_of
  sittings_told p q {held} {stored} sits room k n {was = was} given =
      let c = sat_run sits s image p q in
      let met = ap₂ (λ (t : Slot) (i : List ℕ). (exchange t i g.message least_room).answer) c.0 c.1 in
      let lent = ap (λ (x : ℕ). (exchange lastly.slot lastly.image g.message x).answer) (sym room) in
      given.buffer ∙ ap (λ (a : List ℕ). over a was) (met ∙ lent ∙ took_told s image m ms g b e h l k n)

-- ---- a visit that meets the hypotheses: T=1 is set, the card is powered off, asked for its status, a code is sent that fails, and it is asked
abbrev pub set_t1 : Sent
set_t1 = record { message = 0x61 ∷ 7 ∷ 0 ∷ 0 ∷ 0 ∷ 0 ∷ 1 ∷ 1 ∷ 0 ∷ 0 ∷ 0x95 ∷ 0x13 ∷ 0xFF ∷ 0x9F ∷ 3 ∷ 0xFE ∷ 0 ∷ []; room = least_room }

abbrev pub between : List Sent
between = lent ((0x63 ∷ replicate 9 0) ∷ (0x65 ∷ replicate 9 0) ∷ wrong4442 ∷ (0x69 ∷ replicate 9 0) ∷ [])

abbrev pub get_set : Sent
get_set = record { message = 0x6C ∷ 0 ∷ 0 ∷ 0 ∷ 0 ∷ 0 ∷ 6 ∷ 0 ∷ 0 ∷ 0 ∷ []; room = least_room }

abbrev pub came_in : Slot
came_in = inserted Sle4442 3 0

abbrev pub afterwards : Run
afterwards = run (sending came_in (image4442 0x07) set_t1).slot (sending came_in (image4442 0x07) set_t1).image between

pub t1_told : (sending afterwards.slot afterwards.image get_set).answer
    ≡ 0x82 ∷ 7 ∷ 0 ∷ 0 ∷ 0 ∷ 0 ∷ 6 ∷ 1 ∷ 0 ∷ 1 ∷ 0x95 ∷ 0x13 ∷ 0xFF ∷ 0x9F ∷ 3 ∷ 0xFE ∷ 0 ∷ []
unfolding rules image4442 lent transfer heard all_leave are_bytes
t1_told = took_told came_in (image4442 0x07) set_t1 between get_set (are_bytes_lem set_t1.message refl) refl refl refl refl refl

-- and by calls
pub t1_called : {r image : List ℕ} → Called (raw_of came_in) (image4442 0x07) (set_t1 ∷ between) r image → {n : ℤ} {left next was holds : List ℕ}
    → Returns (raw_exchange r image get_set.message least_room) n left next was holds
    → holds ≡ over (0x82 ∷ 7 ∷ 0 ∷ 0 ∷ 0 ∷ 0 ∷ 6 ∷ 1 ∷ 0 ∷ 1 ∷ 0x95 ∷ 0x13 ∷ 0xFF ∷ 0x9F ∷ 3 ∷ 0xFE ∷ 0 ∷ []) was
unfolding rules image4442 lent transfer heard all_leave are_bytes
t1_called calls given = calls_told came_in (image4442 0x07) set_t1 between get_set (are_bytes_lem set_t1.message refl) refl refl refl calls refl refl given
