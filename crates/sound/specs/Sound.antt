-- When a slot record is sound beside an image, and whether the image is one of its card: numbers 4 and 3 of what is turned down.
use Rattle.std.specs.Prelude.{ℕ, Bool, true, false, not, List, Option, Some, None}
use Rattle.words.specs.Choice.{◌and◌, ◌or◌, ◌means◌, ◌is◌}
use Rattle.words.specs.Bytes.{byte}
use Rattle.chips.specs.Kinds.{facts}
use Rattle.sets.specs.Sets.{default_set, takes}
use Rattle.card.specs.Images.{is_card}
use Rattle.slot.specs.declared.Slot.{Slot}
use Rattle.slot.specs.Slots.{occupied, own_type}
use Rattle.counts.specs.Counts.{tries_of, protected_of}
use Rattle.chips.specs.declared.Chip.{Chip}

-- a code card with a full counter
abbrev pub full_code : Option Chip → List ℕ → Bool
full_code None image = false
full_code (Some chip) image = (facts chip).coded and byte image (facts chip).counter is (facts chip).full

-- the image is one of the card; "With no card the image is not looked at"
abbrev pub image_is_card : Option Chip → List ℕ → Bool
image_is_card None image = true
image_is_card (Some chip) image = is_card (facts chip) image

-- "page size is 8, 16, 32, 64 or 128"
unfoldable pub page_size : ℕ → Bool
page_size p = p is 8 or p is 16 or p is 32 or p is 64 or p is 128

-- "no card means inactive and page 8"; 02: "number 4 is also given when there is no card and the flag is set"
unfoldable pub empty_sound : Slot → Bool
empty_sound s = not (occupied s.holds) means not s.active and s.page is 8 and not s.chosen

-- "inactive means no type and closed"
unfoldable pub idle_sound : Slot → Bool
idle_sound s = not s.active means s.selected is 0 and not s.«open»

-- "a selected type is the kind's own"
unfoldable pub type_sound : Slot → Bool
type_sound s = s.selected is 0 or s.selected is own_type s.holds

-- "open means a code card with its type selected and a full counter"
unfoldable pub open_sound : Slot → List ℕ → Bool
open_sound s image = s.«open» means full_code s.holds image and s.selected is own_type s.holds

-- "number 4 is also given when 61h would not take the stored set, or with no card it is not the default"
unfoldable pub set_sound : Option Chip → ℕ → Bool
set_sound h set = takes set and (not (occupied h) means set is default_set)

-- "number 4 is also given when a stored count differs from the image's, or with no card is not 0"
unfoldable pub counts_sound : Slot → List ℕ → Bool
counts_sound s image = s.tries is tries_of s.holds image and s.protected is protected_of s.holds image

-- "It is sound when": all seven hold.
unfoldable pub sound : Slot → List ℕ → Bool
sound s image =
    page_size s.page and empty_sound s and idle_sound s and type_sound s and open_sound s image and set_sound s.holds s.set and counts_sound s image
