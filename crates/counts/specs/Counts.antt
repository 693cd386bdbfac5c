-- 02: "The status screen shows tries left and number of protected bytes": both, of what the slot holds, from the image.
use Rattle.std.specs.Prelude.{◌≡◌, ℕ, List, length, Option, Some, None}
use Rattle.words.specs.Choice.{◌⇒◌⁏◌, ◌is◌}
use Rattle.words.specs.Bytes.{byte}
use Rattle.chips.specs.declared.Chip.{Chip}
use Rattle.chips.specs.declared.Facts.{Facts}
use Rattle.chips.specs.Kinds.{facts}
use Rattle.bits.specs.Bits.{protected_count}
use Rattle.codes.specs.Counters.{tries}
use Rattle.slot.specs.declared.Slot.{Slot}
use Rattle.slot.specs.Slots.{inserted}

-- "Tries left are the one bits of the counter", in the image of a card
abbrev pub tries_in : Facts → List ℕ → ℕ
tries_in f image = tries (byte image f.counter)

-- and its protected bytes
abbrev pub count_in : Facts → List ℕ → ℕ
count_in f image = protected_count f.bits f.covered image

-- "For I2C and an empty slot both are 0; cards without a code show 0 tries." An I2C card has no protection byte, so that none is counted. An image
-- of another length is none of the card's (number 3 turns it down), and none is counted in it.
abbrev pub tries_of : Option Chip → List ℕ → ℕ
tries_of None image = 0
tries_of (Some chip) image = (facts chip).coded ⇒ tries_in (facts chip) image ⁏ 0

abbrev pub protected_of : Option Chip → List ℕ → ℕ
protected_of None image = 0
protected_of (Some chip) image = length image is (facts chip).size ⇒ count_in (facts chip) image ⁏ 0

-- both counts of a slot record are those of the image beside it
pub record Counted (s : Slot) (image : List ℕ) : Type 0 where
  pub tries : s.tries ≡ tries_of s.holds image
  pub protected : s.protected ≡ protected_of s.holds image

-- a card that is put in: "have insertion .. keep them true"
abbrev pub put_in : Chip → List ℕ → Slot
put_in chip image = inserted chip (tries_of (Some chip) image) (protected_of (Some chip) image)
