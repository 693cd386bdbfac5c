-- The reader page, from the insertion on: what each message was to it, and the page that this alone leaves.
--
-- "From now on a successful A4 with type 02h sets the reader page to 32, and with 01h to 8, unless command 01 has succeeded since insertion; a
-- flag in the slot record says so."
use Rattle.std.specs.Prelude.{ℕ, ◌≡◌, Bool, true, false, List, [], ◌∷◌, Result, Ok, Err}
use Rattle.words.specs.Choice.{◌⇒◌⁏◌, ◌and◌, ◌is◌}
use Rattle.words.specs.Bytes.{byte}
use Rattle.chips.specs.declared.Facts.{Facts}
use Rattle.slot.specs.declared.Slot.{Slot}
use Rattle.steps.specs.declared.Status.{Status}
use Rattle.steps.specs.declared.Order.{Order}
use Rattle.steps.specs.Steps.{order}
use Rattle.faults.specs.Faults.{apdu}
use Rattle.reader.specs.Runs.{Sent, sending}
use Rattle.reader.specs.Heard.{requested, heard, transfers}

-- ---- what a message was to the page: nothing, "a successful A4", or a command 01 that "has succeeded" and names a page
pub data Turn : Type 0 where
  none : Turn
  selects : Turn
  names : ℕ → Turn

abbrev pub turn_by : Result Order Status → Turn
turn_by (Err status) = none
turn_by (Ok Order.Select) = selects
turn_by (Ok (Order.Page p)) = names p
turn_by (Ok (Order.Read at n)) = none
turn_by (Ok (Order.Counter n)) = none
turn_by (Ok (Order.Bits at n)) = none
turn_by (Ok (Order.Write at)) = none
turn_by (Ok (Order.Protect at)) = none
turn_by (Ok Order.Present) = none
turn_by (Ok Order.Change) = none

unfoldable pub turn_of : Facts → Slot → List ℕ → Sent → Turn
turn_of f s image m = heard s image m and transfers (requested m) ⇒ turn_by (order f s (apdu m.message)) ⁏ none

-- every message of a run, in order
unfoldable pub turns : Facts → Slot → List ℕ → List Sent → List Turn
turns f s image [] = []
turns f s image (m ∷ ms) = turn_of f s image m ∷ turns f (sending s image m).slot (sending s image m).image ms

-- ---- the page that they leave
-- some A4 succeeded; some command 01 did
unfoldable pub selected : List Turn → Bool
selected [] = false
selected (none ∷ ts) = selected ts
selected (selects ∷ ts) = true
selected (names p ∷ ts) = selected ts

unfoldable pub named : List Turn → Bool
named [] = false
named (none ∷ ts) = named ts
named (selects ∷ ts) = named ts
named (names p ∷ ts) = true

-- "the one that the last successful 01 named", and `before` before any
unfoldable pub last_named : ℕ → List Turn → ℕ
last_named before [] = before
last_named before (none ∷ ts) = last_named before ts
last_named before (selects ∷ ts) = last_named before ts
last_named before (names p ∷ ts) = last_named p ts

-- "before any, 8, or 32 from the first successful A4 of a type 02h card on"
abbrev pub unnamed : Facts → List Turn → ℕ
unnamed f ts = f.selects is 0x02 and selected ts ⇒ 32 ⁏ 8

abbrev pub page_since : Facts → List Turn → ℕ
page_since f ts = last_named (unnamed f ts) ts

-- ---- the sentence: of a run of messages from a slot and an image, and page and flag now
pub record Paging (f : Facts) (s : Slot) (image : List ℕ) (ms : List Sent) (p : ℕ) (c : Bool) : Type 0 where
  pub page : p ≡ page_since f (turns f s image ms)
  pub flag : c ≡ named (turns f s image ms)

-- ---- what a raw record shows of them
abbrev pub page_shown : List ℕ → ℕ
page_shown r = byte r 3

abbrev pub chosen_shown : List ℕ → Bool
chosen_shown r = byte r 16 is 1
