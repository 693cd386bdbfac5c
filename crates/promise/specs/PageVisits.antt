-- Visits of cards and what the slot record says of the page, worked by hand: page and flag after the insertion and after every message.
use Rattle.std.specs.Prelude.{ℕ, Bool, not, List, [], ◌∷◌, replicate}
use Rattle.words.specs.Choice.{◌and◌, ◌is◌}
use Rattle.chips.specs.declared.Chip.TheVariants.{I2c1, I2c32, Sle4442}
use Rattle.slot.specs.declared.Slot.{Slot}
use Rattle.vectors.specs.Sessions.{image4442}
use Rattle.promise.specs.Visits.{power_on, select, set_page}
use Rattle.promise.specs.Guarded.{unknown_type, nine_bytes}
use Rattle.promise.specs.Screens.{Screen}

-- the record has this page, and nobody chose it; and the host did
abbrev pub given : ℕ → Slot → Bool
given p s = s.page is p and not s.chosen

abbrev pub chose : ℕ → Slot → Bool
chose p s = s.page is p and s.chosen

abbrev pub power_off : List ℕ
power_off = 0x63 ∷ replicate 9 0

unfoldable pub page_visits : List Screen
page_visits =
    -- 1. type 02h: 8 until A4, which sets 32; a refused 01, power off, power on and A4 once more leave it; 03h chooses 8, and A4 and power leave that
    record {
      chip = I2c32;
      image = replicate 4096 0xFF;
      messages =
          power_on
          ∷ select 0x01
          ∷ select 0x02
          ∷ set_page 0x02
          ∷ power_off
          ∷ power_on
          ∷ select 0x02
          ∷ set_page 0x03
          ∷ select 0x02
          ∷ power_off
          ∷ power_on
          ∷ select 0x02
          ∷ set_page 0x07
          ∷ select 0x02
          ∷ [];
      lines =
          given 8
          ∷ given 8
          ∷ given 8
          ∷ given 32
          ∷ given 32
          ∷ given 32
          ∷ given 32
          ∷ given 32
          ∷ chose 8
          ∷ chose 8
          ∷ chose 8
          ∷ chose 8
          ∷ chose 8
          ∷ chose 128
          ∷ chose 128
          ∷ [];
    }
    -- 2. 01 before A4 is refused, and does not choose; a message that fails and one that is turned down leave both
    ∷ record {
      chip = I2c32;
      image = replicate 4096 0xFF;
      messages = power_on ∷ set_page 0x03 ∷ unknown_type ∷ nine_bytes ∷ select 0x02 ∷ unknown_type ∷ nine_bytes ∷ [];
      lines = given 8 ∷ given 8 ∷ given 8 ∷ given 8 ∷ given 8 ∷ given 32 ∷ given 32 ∷ given 32 ∷ [];
    }
    -- 3. type 01h: 8, chosen or not; a chosen 16 stays
    ∷ record {
      chip = I2c1;
      image = replicate 128 0xFF;
      messages = power_on ∷ select 0x01 ∷ set_page 0x03 ∷ select 0x01 ∷ set_page 0x04 ∷ power_on ∷ select 0x01 ∷ set_page 0x08 ∷ [];
      lines = given 8 ∷ given 8 ∷ given 8 ∷ chose 8 ∷ chose 8 ∷ chose 16 ∷ chose 16 ∷ chose 16 ∷ chose 16 ∷ [];
    }
    -- 4. a code card: A4 leaves 8, and 01 is none of its commands
    ∷ record {
      chip = Sle4442;
      image = image4442 0x07;
      messages = power_on ∷ select 0x06 ∷ set_page 0x04 ∷ select 0x06 ∷ [];
      lines = given 8 ∷ given 8 ∷ given 8 ∷ given 8 ∷ given 8 ∷ [];
    }
    ∷ []
