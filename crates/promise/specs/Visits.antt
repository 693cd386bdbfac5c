-- Visits of a code card, from the insertion on: a host powers the card, selects its type and tries codes. Each row is a card and the messages
-- sent, with what every message was to the card and the tries that are left in its image at the end.
use Rattle.std.specs.Prelude.{ℕ, ◌+◌, Bool, true, false, List, [], ◌∷◌}
use Rattle.words.specs.Choice.{◌⇒◌⁏◌, ◌and◌, ◌is◌}
use Rattle.codes.specs.Counters.{tries}
use Rattle.chips.specs.declared.Chip.{Chip}
use Rattle.chips.specs.declared.Chip.TheVariants.{Sle4428, Sle4442}
use Rattle.chips.specs.Kinds.{facts}
use Rattle.slot.specs.Slots.{removed}
use Rattle.frame.specs.Exchange.{insertion}
use Rattle.vectors.specs.Sessions.{lent, transfer, image4442, image4428, wrong4442, right4442}
use Rattle.promise.specs.Tries.{Event, none, wrong, right, tries_left, run_from, history_from}
use Rattle.counts.specs.Counts.{tries_in}

pub record Visit : Type 0 where
  pub chip : Chip
  pub image : List ℕ
  pub messages : List (List ℕ)
  pub events : List Event
  pub left : ℕ

-- ---- when a row is as said
abbrev pub same_event : Event → Event → Bool
same_event none none = true
same_event none wrong = false
same_event none right = false
same_event wrong none = false
same_event wrong wrong = true
same_event wrong right = false
same_event right none = false
same_event right wrong = false
same_event right right = true

unfoldable pub same_events : List Event → List Event → Bool
same_events [] [] = true
same_events [] (e ∷ es) = false
same_events (d ∷ ds) [] = false
same_events (d ∷ ds) (e ∷ es) = same_event d e and same_events ds es

-- the insertion is accepted, each message is what the row says, and the tries in the image are those that the row and the history say
unfoldable pub as_said : Visit → Bool
as_said v =
    let f = facts v.chip in
    let ms = lent v.messages in
    (insertion removed f.kind v.image).number is 0
    and same_events (history_from v.chip removed f.kind v.image ms) v.events
    and tries_in f (run_from removed f.kind v.image ms).image is v.left
    and tries_left (tries f.full) (tries_in f v.image) v.events is v.left

-- the number of the first row that is not, the first row being number k; 0 where all are
unfoldable pub unlike : ℕ → List Visit → ℕ
unlike k [] = 0
unlike k (v ∷ vs) = let later = unlike (k + 1) vs in as_said v ⇒ later ⁏ k

-- ---- the words of the table
-- 62h, A4 with a type, and 01 with a value
abbrev pub power_on : List ℕ
power_on = 0x62 ∷ 0 ∷ 0 ∷ 0 ∷ 0 ∷ 0 ∷ 0 ∷ 0 ∷ 0 ∷ 0 ∷ []

abbrev pub select : ℕ → List ℕ
select type = transfer (0xFF ∷ 0xA4 ∷ 0x00 ∷ 0x00 ∷ 0x01 ∷ type ∷ [])

abbrev pub set_page : ℕ → List ℕ
set_page v = transfer (0xFF ∷ 0x01 ∷ 0x00 ∷ 0x00 ∷ 0x01 ∷ v ∷ [])

-- a wrong and the right code of the SLE4428 of the sessions
abbrev pub wrong4428 : List ℕ
wrong4428 = transfer (0xFF ∷ 0x20 ∷ 0x00 ∷ 0x00 ∷ 0x02 ∷ 0x01 ∷ 0x02 ∷ [])

abbrev pub right4428 : List ℕ
right4428 = transfer (0xFF ∷ 0x20 ∷ 0x00 ∷ 0x00 ∷ 0x02 ∷ 0x11 ∷ 0x22 ∷ [])

-- the code changed: D2 on the SLE4442, and on the SLE4428 D0 over the code's bytes; and the new code
abbrev pub change4442 : List ℕ
change4442 = transfer (0xFF ∷ 0xD2 ∷ 0x00 ∷ 0x01 ∷ 0x03 ∷ 0x44 ∷ 0x55 ∷ 0x66 ∷ [])

abbrev pub new4442 : List ℕ
new4442 = transfer (0xFF ∷ 0x20 ∷ 0x00 ∷ 0x00 ∷ 0x03 ∷ 0x44 ∷ 0x55 ∷ 0x66 ∷ [])

abbrev pub change4428 : List ℕ
change4428 = transfer (0xFF ∷ 0xD0 ∷ 0x03 ∷ 0xFE ∷ 0x02 ∷ 0x44 ∷ 0x55 ∷ [])

abbrev pub new4428 : List ℕ
new4428 = transfer (0xFF ∷ 0x20 ∷ 0x00 ∷ 0x00 ∷ 0x02 ∷ 0x44 ∷ 0x55 ∷ [])

-- B1, which reads the SLE4442's counter
abbrev pub read_counter : List ℕ
read_counter = transfer (0xFF ∷ 0xB1 ∷ 0x00 ∷ 0x00 ∷ 0x04 ∷ [])

-- three wrong codes, then the right one, which meets no try
abbrev pub thief4442 : List (List ℕ)
thief4442 = power_on ∷ select 0x06 ∷ wrong4442 ∷ wrong4442 ∷ wrong4442 ∷ right4442 ∷ []

-- a card with a counter; the messages after 62h and A4, which reach no card; what those are; and the tries left
unfoldable pub with4442 : ℕ → List (List ℕ) → List Event → ℕ → Visit
with4442 c ms es n = record { chip = Sle4442; image = image4442 c; messages = power_on ∷ select 0x06 ∷ ms; events = none ∷ none ∷ es; left = n }

unfoldable pub with4428 : ℕ → List (List ℕ) → List Event → ℕ → Visit
with4428 c ms es n = record { chip = Sle4428; image = image4428 c; messages = power_on ∷ select 0x05 ∷ ms; events = none ∷ none ∷ es; left = n }

-- ---- the table
unfoldable pub visits : List Visit
visits =
    -- all tries: two wrong codes, the right one, a wrong one
    with4442 0x07 (wrong4442 ∷ wrong4442 ∷ right4442 ∷ wrong4442 ∷ []) (wrong ∷ wrong ∷ right ∷ wrong ∷ []) 2
    ∷ with4428 0xFF (wrong4428 ∷ wrong4428 ∷ right4428 ∷ wrong4428 ∷ []) (wrong ∷ wrong ∷ right ∷ wrong ∷ []) 7
    -- a code before the type is selected reaches no card, nor does one after power off and on
    ∷ with4442 0x07 (power_on ∷ wrong4442 ∷ select 0x06 ∷ wrong4442 ∷ []) (none ∷ none ∷ none ∷ wrong ∷ []) 2
    -- three wrong codes, then the right one, which meets no try
    ∷ record { chip = Sle4442; image = image4442 0x07; messages = thief4442; events = none ∷ none ∷ wrong ∷ wrong ∷ wrong ∷ right ∷ []; left = 0 }
    -- counter 05h, two tries: a wrong code, the right one, a wrong one; two wrong codes, then the right one
    ∷ with4442 0x05 (wrong4442 ∷ right4442 ∷ wrong4442 ∷ []) (wrong ∷ right ∷ wrong ∷ []) 2
    ∷ with4442 0x05 (wrong4442 ∷ wrong4442 ∷ right4442 ∷ []) (wrong ∷ wrong ∷ right ∷ []) 0
    ∷ with4428 0x05 (wrong4428 ∷ right4428 ∷ wrong4428 ∷ []) (wrong ∷ right ∷ wrong ∷ []) 7
    -- counter 01h, one try: the right code; a wrong one, then the right one
    ∷ with4442 0x01 (right4442 ∷ []) (right ∷ []) 3
    ∷ with4442 0x01 (wrong4442 ∷ right4442 ∷ []) (wrong ∷ right ∷ []) 0
    ∷ with4428 0x01 (wrong4428 ∷ right4428 ∷ []) (wrong ∷ right ∷ []) 0
    -- counter 00h, none: a wrong code and the right one
    ∷ with4442 0x00 (wrong4442 ∷ right4442 ∷ []) (wrong ∷ right ∷ []) 0
    ∷ with4428 0x00 (wrong4428 ∷ right4428 ∷ []) (wrong ∷ right ∷ []) 0
    -- the code changed by D2: the old one is wrong from then on, and the new one right; a code is judged by what the card holds then
    ∷ with4442 0x07
    (right4442 ∷ change4442 ∷ right4442 ∷ new4442 ∷ right4442 ∷ [])
    (right ∷ none ∷ wrong ∷ right ∷ wrong ∷ [])
    2
    -- and by D0
    ∷ with4428 0xFF
    (right4428 ∷ change4428 ∷ right4428 ∷ new4428 ∷ right4428 ∷ [])
    (right ∷ none ∷ wrong ∷ right ∷ wrong ∷ [])
    7
    ∷ []
