-- "Session program": what it prints, from the whole input to the whole output. It computes.
use Rattle.std.specs.Prelude.{ℕ, zero, suc, ◌-◌, ◌≡◌, Bool, true, false, List, [], ◌++◌, length, take, drop, Ok, Err}
use Rattle.words.specs.Bounds.{least_room}
use Rattle.words.specs.Choice.{◌⇒◌⁏◌}
use Rattle.slot.specs.declared.Slot.{Slot}
use Rattle.slot.specs.Slots.{removed}
use Rattle.frame.specs.Exchange.{Outcome}
use Rattle.records.specs.declared.Mark.{Mark}
use Rattle.records.specs.declared.Stop.TheVariants.{Cut, Bad, End}
use Rattle.records.specs.Records.{Found, record_at}
use Rattle.sitting.specs.Sittings.{outcome_of}
use Rattle.lines.specs.Text.{text}
use Rattle.lines.specs.Lines.{line}

-- what comes of a whole record: the answer buffer that is lent is the smallest that is not turned down
abbrev pub comes_of : Mark → List ℕ → Slot → List ℕ → Outcome
comes_of mark body s image = outcome_of mark body s image least_room

-- "A line each"
abbrev pub line_of : Mark → Outcome → List ℕ
line_of mark o = line mark o.number o.answer

-- "A cut record, another mark, a body over 32,769 bytes or a non-empty remove body prints `bad` and stops. Clean end prints nothing."
abbrev pub bad : Found → Bool
bad (Ok r) = false
bad (Err Cut) = true
bad (Err Bad) = true
bad (Err End) = false

-- it stops at a reading that is not of a whole record
abbrev pub whole : Found → Bool
whole (Ok r) = true
whole (Err stop) = false

unfoldable pub parting : Found → List ℕ
parting r = bad r ⇒ text "bad\n" ⁏ []

-- what may still stand behind the reading that stops it: whatever it is where the record is bad, which is not read, else nothing
abbrev pub Unread : Found → List ℕ → Type 0
Unread (Ok r) more = more ≡ []
Unread (Err Cut) more = more ≡ []
Unread (Err Bad) more = Unit {0}
Unread (Err End) more = more ≡ []

-- What a session prints that holds a slot and an image, by the record that stands first in what is left of the input: the record's line, and
-- then what is printed after it; or what is printed where the session stops.
abbrev pub next : (List ℕ → Slot → List ℕ → List ℕ) → Found → List ℕ → Slot → List ℕ → List ℕ
next after (Ok r) left s image =
    let o = comes_of r.mark (take (r.end - r.start) (drop r.start left)) s image in
    line_of r.mark o ++ after (drop r.end left) o.slot o.image
next after (Err stop) left s image = parting (Err stop)

-- record by record, n of them at most
unfoldable pub printing : ℕ → List ℕ → Slot → List ℕ → List ℕ
printing zero left s image = []
printing (suc n) left s image = next (printing n) (record_at left 0) left s image

-- the bytes that are left are more than the records that they hold
abbrev pub prints : List ℕ → Slot → List ℕ → List ℕ
prints left s image = printing (length left) left s image

-- "It starts with the empty sound slot."
unfoldable pub printed : List ℕ → List ℕ
printed input = prints input removed []
