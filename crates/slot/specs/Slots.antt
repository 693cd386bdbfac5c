-- The slot record: what it holds, and its changes. A record is written out here and nowhere else.
use Rattle.std.specs.Prelude.{ℕ, Bool, true, false, Option, Some, None}
use Rattle.words.specs.Choice.{◌⇒◌⁏◌, ◌is◌}
use Rattle.chips.specs.declared.Chip.{Chip}
use Rattle.chips.specs.Kinds.{facts}
use Rattle.sets.specs.Sets.{default_set}
use Rattle.slot.specs.declared.Slot.{Slot}

-- "The slot holds nothing or a card of one kind"
abbrev pub occupied : Option Chip → Bool
occupied None = false
occupied (Some chip) = true

-- the kind's own type; none is 0
abbrev pub own_type : Option Chip → ℕ
own_type None = 0
own_type (Some chip) = (facts chip).selects

-- ---- the changes
-- a record of its fields, and a record with one field changed; every other change is made of these
abbrev pub slotted : Option Chip → Bool → ℕ → ℕ → Bool → ℕ → ℕ → ℕ → Bool → Slot
slotted h on t p o set left n c = record { holds = h; active = on; selected = t; page = p; «open» = o; set = set; tries = left; protected = n; chosen = c }

abbrev pub active_as : Bool → Slot → Slot
active_as on s = slotted s.holds on s.selected s.page s.«open» s.set s.tries s.protected s.chosen

abbrev pub type_as : ℕ → Slot → Slot
type_as t s = slotted s.holds s.active t s.page s.«open» s.set s.tries s.protected s.chosen

abbrev pub page_as : ℕ → Slot → Slot
page_as p s = slotted s.holds s.active s.selected p s.«open» s.set s.tries s.protected s.chosen

abbrev pub open_as : Bool → Slot → Slot
open_as o s = slotted s.holds s.active s.selected s.page o s.set s.tries s.protected s.chosen

abbrev pub set_as : ℕ → Slot → Slot
set_as set s = slotted s.holds s.active s.selected s.page s.«open» set s.tries s.protected s.chosen

abbrev pub tries_as : ℕ → Slot → Slot
tries_as left s = slotted s.holds s.active s.selected s.page s.«open» s.set left s.protected s.chosen

abbrev pub protected_as : ℕ → Slot → Slot
protected_as n s = slotted s.holds s.active s.selected s.page s.«open» s.set s.tries n s.chosen

abbrev pub chosen_as : Bool → Slot → Slot
chosen_as c s = slotted s.holds s.active s.selected s.page s.«open» s.set s.tries s.protected c

-- "Insertion gives: inactive, no type, page 8, closed"; the default parameters return; tries left and number of protected bytes are those that come; no
-- command 01 has succeeded since
abbrev pub inserted : Chip → ℕ → ℕ → Slot
inserted chip left n = slotted (Some chip) false 0 8 false default_set left n false

-- "Removal always gives the empty sound slot"; the default parameters return; "For .. an empty slot both are 0"; no
-- command 01 has succeeded
abbrev pub removed : Slot
removed = slotted None false 0 8 false default_set 0 0 false

-- "Power on: active, no type, closed"; "Power off: inactive, no type, closed. Page size survives both", and so does its flag
abbrev pub powered : Bool → Slot → Slot
powered on s = active_as on (type_as 0 (open_as false s))

-- the default parameters return "on reset, power on, insertion and removal"
abbrev pub defaulted : Slot → Slot
defaulted s = set_as default_set s

-- 02: "a successful A4 with type 02h sets the reader page to 32, and with 01h to 8"; with another type the page p stays
unfoldable pub page_for : ℕ → ℕ → ℕ
page_for t p = t is 0x02 ⇒ 32 ⁏ t is 0x01 ⇒ 8 ⁏ p

-- "unless command 01 has succeeded since insertion; a flag in the slot record says so"
unfoldable pub page_after : ℕ → Slot → ℕ
page_after t s = s.chosen ⇒ s.page ⁏ page_for t s.page

-- "A4: selects the type, closes"
abbrev pub selecting : ℕ → Slot → Slot
selecting t s = type_as t (open_as false (page_as (page_after t s) s))

-- "01: page 8, 16, 32, 64, 128"; it "has succeeded since insertion"
abbrev pub paged : ℕ → Slot → Slot
paged p s = chosen_as true (page_as p s)

-- "Equal: counter full, open. Not: closed"
abbrev pub opened : Slot → Slot
opened s = open_as true s

abbrev pub closed : Slot → Slot
closed s = open_as false s
