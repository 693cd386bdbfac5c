-- Both code cards can be put in, and visits of them have the histories and leave the tries that the theorems speak of: the rules are computed.
use mathlib.Core.Path.{◌≡◌, refl, ap, ◌∙◌}
use mathlib.Core.Bool.{true}
use mathlib.Core.List.{List, [], ◌∷◌, ◌++◌}
use Prim.Native.Nat.{ℕ}
use lib.ListN.{replicate, take}
use lib.IntN.{pos}
use lib.Count.{ones}
use Rattle.std.specs.Prelude.{Some, Ok}
use Rattle.words.specs.Bounds.{least_room}
use Rattle.codes.specs.Counters.{tries}
use Rattle.chips.specs.declared.Chip.TheVariants.{Sle4428, Sle4442}
use Rattle.chips.specs.Kinds.{facts, chip_of}
use Rattle.records.specs.declared.Mark.{Mark}
use Rattle.slot.specs.Slots.{removed, inserted}
use Rattle.record.specs.Raw.{raw_of}
use Rattle.steps.specs.declared.Order.{Order}
use Rattle.steps.specs.Steps.{order}
use Rattle.faults.specs.declared.Request.TheVariants.{Transfer}
use Rattle.faults.specs.Faults.{apdu}
use Rattle.reader.specs.Runs.{Sent, Run, sending}
use Rattle.reader.specs.Heard.{requested, heard, reached}
use Rattle.reader.specs.Rules.{rules}
use Rattle.calls.specs.Calls.{RawOutcome, keeping, raw_insertion, Returns}
use Rattle.sitting.specs.declared.Held.{Held}
use Rattle.sitting.specs.declared.Done.{Done}
use Rattle.sitting.specs.Sittings.{outcome_of, holding, taken_for, Leaves}
use Rattle.vectors.specs.Sessions.{lent, recounted, selected_slot, image4442, image4428, transfer, success, wrong4442}
use Rattle.promise.specs.Tries.{wrong, right_now, event_of, history, wrongs, left, account, tries_left, PutIn, run_from}
use Rattle.counts.specs.Counts.{tries_in}
use Rattle.promise.specs.Visits.{same_events, as_said, unlike, with4442, with4428, visits, power_on, select, read_counter, thief4442}
use Rattle.promise.proofs.Zero.{zero_remains}
use Rattle.promise.specs.Sequences.{Called, Sat}
use Rattle.promise.proofs.Told.{counter_told}
use Rattle.promise.proofs.Sequences.{calls_run, sittings_run}

-- all tries: three and eight
pub all4442 : tries (facts Sle4442).full ≡ 3
unfolding ones
all4442 = refl

pub all4428 : tries (facts Sle4428).full ≡ 8
unfolding ones
all4428 = refl

pub put4442 : PutIn Sle4442 removed 30 (image4442 0x07)
unfolding rules image4442
put4442 = record { coded = refl; known = refl; accepted = refl }

pub put4428 : PutIn Sle4428 removed 20 (image4428 0xFF)
unfolding rules image4428
put4428 = record { coded = refl; known = refl; accepted = refl }

-- every row of the table
pub visits_hold : unlike 1 visits ≡ 0
unfolding rules heard reached right_now event_of history wrongs left account tries_left lent image4442 image4428 transfer same_events as_said unlike
    with4442 with4428 visits
visits_hold = refl

-- after three wrong codes not a byte changes any more
pub thief_zero : tries_in (facts Sle4442) (run_from removed 30 (image4442 0x07) (lent thief4442)).image ≡ 0
unfolding rules image4442 lent transfer
thief_zero = refl

pub spent_for_good : (ns : List Sent) → (run_from removed 30 (image4442 0x07) (lent thief4442 ++ ns)).image ≡ (run_from removed 30 (image4442 0x07) (lent thief4442)).image
spent_for_good ns = zero_remains Sle4442 removed 30 (image4442 0x07) put4442 (lent thief4442) ns thief_zero

-- the first of two equal wrong codes is one that reaches the card: the hypothesis of `equal_codes_cost_two` is met
pub wrong_reaches : event_of (facts Sle4442) (recounted (image4442 0x07) (selected_slot Sle4442)) (image4442 0x07) (record { message = wrong4442; room = least_room }) ≡ wrong
unfolding rules image4442 recounted selected_slot transfer heard reached right_now event_of
wrong_reaches = refl

-- two wrong codes, then B1: the hypotheses of `counter_told` are met, and the counter that it tells is the one that the codes left
abbrev pub burned : Run
burned = run_from removed 30 (image4442 0x07) (lent (power_on ∷ select 0x06 ∷ wrong4442 ∷ wrong4442 ∷ []))

abbrev pub asks : Sent
asks = record { message = read_counter; room = least_room }

pub counter_asked : (heard burned.slot burned.image asks ≡ true) × (requested asks ≡ Transfer)
    × (order (facts Sle4442) burned.slot (apdu read_counter) ≡ Ok (Order.Counter 4))
unfolding rules image4442 lent transfer heard
counter_asked = (refl, refl, refl)

pub counter_read_lem : ((sending burned.slot burned.image asks).answer ≡ success (0x04 ∷ replicate 3 0 ++ (0x90 ∷ 0x00 ∷ [])))
    × ((sending burned.slot burned.image asks).image ≡ burned.image)
unfolding rules image4442 lent transfer success
counter_read_lem = counter_told Sle4442 burned.slot burned.image asks refl 4 counter_asked.0 counter_asked.1 counter_asked.2

known4442 : chip_of 30 ≡ Some Sle4442
unfolding rules
known4442 = refl

-- ---- and so by calls: the card is put in by `card_reader_insert`, and any calls of the visit's messages leave no try
abbrev pub put_called : RawOutcome
put_called = raw_insertion (raw_of removed) 30 (image4442 0x07)

pub call_put4442 : Returns put_called (pos 0) (raw_of (inserted Sle4442 3 0)) (image4442 0x07) [] []
unfolding rules raw_of raw_insertion keeping image4442
call_put4442 = record { result = refl; raw = refl; image = refl; buffer = refl }

pub thief_called : {r image : List ℕ} → Called (raw_of (inserted Sle4442 3 0)) (image4442 0x07) (lent thief4442) r image → tries_in (facts Sle4442) image ≡ 0
thief_called later =
    ap (tries_in (facts Sle4442)) (calls_run Sle4442 refl 30 known4442 (raw_of removed) (image4442 0x07) call_put4442 later).1 ∙ thief_zero

-- and by records of a session
abbrev pub start_held : Held
start_held = record { slot = removed; size = 0 }

abbrev pub put_sat : Done
put_sat = record { number = 0; len = 0; held = record { slot = inserted Sle4442 3 0; size = 264 } }

pub record_put4442 : Leaves (outcome_of Mark.Insert (30 ∷ image4442 0x07) removed [] least_room) put_sat [] (image4442 0x07) [] []
unfolding rules outcome_of holding taken_for image4442
record_put4442 = record { number = refl; len = refl; slot = refl; size = refl; image = refl; buffer = refl }

pub thief_sat : {h : Held} {image : List ℕ} → Sat put_sat.held (image4442 0x07) (lent thief4442) h image → tries_in (facts Sle4442) (take h.size image) ≡ 0
thief_sat later =
    ap (tries_in (facts Sle4442)) (sittings_run Sle4442 refl start_held [] (30 ∷ image4442 0x07) known4442 record_put4442 refl later).1 ∙ thief_zero
