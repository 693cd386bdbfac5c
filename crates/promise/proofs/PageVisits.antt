-- Every visit has the pages that were worked by hand: the rules are computed. And cards put in meet what the theorems on the page speak of.
use Prim.Native.Nat.{ℕ, ◌+◌}
use mathlib.Core.Path.{◌≡◌, refl}
use mathlib.Core.List.{List, [], ◌∷◌, ◌++◌}
use native.Mathlib.Omega.{arith}
use lib.ListN.{length, take, drop, replicate}
use Rattle.words.specs.Bounds.{least_room}
use Rattle.chips.specs.declared.Chip.TheVariants.{I2c32, Sle4442}
use Rattle.chips.specs.Kinds.{facts}
use Rattle.slot.specs.Slots.{removed, inserted}
use Rattle.record.specs.Raw.{raw_of}
use Rattle.reader.specs.Runs.{Sent, Run, sending}
use Rattle.reader.specs.Rules.{rules}
use Rattle.reader.specs.Heard.{heard}
use Rattle.vectors.specs.Sessions.{lent, image4442, transfer}
use Rattle.vectors.specs.Plain.{command}
use Rattle.promise.specs.Tries.{run_from}
use Rattle.promise.specs.Sequences.{Called}
use Rattle.promise.specs.Stored.{sent_by}
use Rattle.promise.specs.Visits.{power_on, select, set_page}
use Rattle.promise.specs.Chosen.{turn_of, turns, selected, named, Paging, page_shown, chosen_shown}
use Rattle.promise.specs.Screens.{same_lines, as_shown, unshown}
use Rattle.promise.specs.PageVisits.{page_visits}
use Rattle.promise.proofs.Visits.{call_put4442}
use Rattle.promise.proofs.Chosen.{page_from, calls_page_from, page_named, page_unnamed, unnamed_range}

-- every row of the table
pub visits_paged : unshown 1 page_visits ≡ 0
unfolding rules lent image4442 transfer same_lines as_shown unshown page_visits
visits_paged = refl

-- a large card is put in: whatever is sent then, page and flag are what the theorem says
abbrev blank32 : List ℕ
blank32 = replicate 4096 0xFF

pub paging32 : (ms : List Sent) → Paging (facts I2c32) (inserted I2c32 0 0) blank32 ms (run_from removed 6 blank32 ms).slot.page (run_from removed 6 blank32 ms).slot.chosen
unfolding rules
paging32 ms = page_from I2c32 removed 6 blank32 refl refl ms

-- and by calls, of a code card
pub called_page : {ms : List Sent} {r image : List ℕ} → Called (raw_of (inserted Sle4442 3 0)) (image4442 0x07) ms r image
    → Paging (facts Sle4442) (inserted Sle4442 3 0) (image4442 0x07) ms (page_shown r) (chosen_shown r)
unfolding rules image4442
called_page calls = calls_page_from Sle4442 30 (raw_of removed) (image4442 0x07) refl call_put4442 calls

-- power on and A4: the page is 32, for no 01 has succeeded; then 40 bytes lie where they were sent
abbrev readied : List Sent
readied = lent (power_on ∷ select 0x02 ∷ [])

abbrev ready : Run
ready = run_from removed 6 blank32 readied

abbrev forty : Sent
forty = record { message = command 0xD0 0x00 0x10 0x28 (replicate 40 0x05); room = least_room }

pub ready_32 : ready.slot.page ≡ 32
unfolding rules lent transfer turn_of turns selected named heard
ready_32 = page_unnamed (paging32 readied) refl

pub wrote_forty : (sending ready.slot ready.image forty).image ≡ take 16 ready.image ++ sent_by forty ++ drop (16 + length (sent_by forty)) ready.image
unfolding rules lent transfer turn_of turns named heard
wrote_forty = unnamed_range I2c32 removed 6 blank32 refl refl readied forty 16 refl (record { is_heard = refl; asked = refl; ends = refl }) (omega arith)

-- 04h and A4 behind them: the page is the one that 04h named
pub named_16 : (run_from removed 6 blank32 (readied ++ lent (set_page 0x04 ∷ select 0x02 ∷ []))).slot.page ≡ 16
unfolding rules lent transfer turn_of turns named heard
named_16 = page_named (facts I2c32) (inserted I2c32 0 0) blank32 readied (record { message = set_page 0x04; room = least_room }) (lent (select 0x02 ∷ []))
    (paging32 (readied ++ lent (set_page 0x04 ∷ select 0x02 ∷ []))) 16 refl refl
