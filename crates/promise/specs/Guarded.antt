-- Visits of cards with protected bytes, from the insertion on, one or more for each kind with protection bits: each row is a card, a byte of it
-- and the messages sent, with whether the byte came protected, whether some message is a D1 that carries its value, and its value at the end.
use Rattle.std.specs.Prelude.{ℕ, ◌+◌, Bool, true, false, List, [], ◌∷◌, replicate, set}
use Rattle.std.specs.Bool.{beq}
use Rattle.words.specs.Choice.{◌⇒◌⁏◌, ◌and◌, ◌or◌, ◌is◌}
use Rattle.words.specs.Bytes.{byte}
use Rattle.chips.specs.declared.Chip.{Chip}
use Rattle.chips.specs.declared.Chip.TheVariants.{I2c1, Sle4428, Sle4418, Sle4442, Sle4432}
use Rattle.chips.specs.Kinds.{facts}
use Rattle.slot.specs.Slots.{removed}
use Rattle.counts.specs.Counts.{put_in}
use Rattle.frame.specs.Exchange.{insertion}
use Rattle.vectors.specs.Sessions.{lent, image4442, image4428, right4442}
use Rattle.vectors.specs.Plain.{image4418, image4432, command}
use Rattle.promise.specs.Tries.{run_from}
use Rattle.promise.specs.Visits.{power_on, select, right4428}
use Rattle.promise.specs.Protected.{protected_in, some_protects}

pub record Guarded : Type 0 where
  pub chip : Chip
  pub image : List ℕ
  pub at : ℕ
  pub messages : List (List ℕ)
  pub came : Bool
  pub carried : Bool
  pub value : ℕ

-- the insertion is accepted, and the row says what the definitions give
unfoldable pub as_guarded : Guarded → Bool
as_guarded v =
    let f = facts v.chip in
    let ms = lent v.messages in
    let now = (run_from removed f.kind v.image ms).image in
    (insertion removed f.kind v.image).number is 0
    and beq (protected_in f v.image v.at) v.came
    and beq (some_protects f (put_in v.chip v.image) v.image ms v.at) v.carried
    and beq (protected_in f now v.at) (v.came or v.carried)
    and byte now v.at is v.value

-- the number of the first row that does not, the first row being number k; 0 where all do
unfoldable pub unguarded : ℕ → List Guarded → ℕ
unguarded k [] = 0
unguarded k (v ∷ vs) = let later = unguarded (k + 1) vs in as_guarded v ⇒ later ⁏ k

-- a message of an unsupported type, which fails; one of nine bytes, which is turned down
abbrev pub unknown_type : List ℕ
unknown_type = 0x69 ∷ replicate 9 0

abbrev pub nine_bytes : List ℕ
nine_bytes = 0x62 ∷ replicate 8 0

unfoldable pub guard_visits : List Guarded
guard_visits =
    -- SLE4442: opened, D1 carries the value of byte 1, and D0 passes over it from then on
    record {
      chip = Sle4442;
      image = image4442 0x07;
      at = 1;
      messages = power_on ∷ select 0x06 ∷ right4442 ∷ command 0xD1 0x00 0x00 0x02 (0x00 ∷ 0x13 ∷ []) ∷ command 0xD0 0x00 0x01 0x01 (0x09 ∷ []) ∷ [];
      came = false;
      carried = true;
      value = 0x13;
    }
    -- closed, D1 is refused; then opened, one with another value passes the byte over; D0 stores
    ∷ record {
      chip = Sle4442;
      image = image4442 0x07;
      at = 1;
      messages =
          power_on
          ∷ select 0x06
          ∷ command 0xD1 0x00 0x01 0x01 (0x13 ∷ [])
          ∷ right4442
          ∷ command 0xD1 0x00 0x01 0x01 (0x08 ∷ [])
          ∷ command 0xD0 0x00 0x01 0x01 (0x09 ∷ [])
          ∷ [];
      came = false;
      carried = false;
      value = 0x09;
    }
    -- it came protected: D0, D1 with another value, a message that fails, one that is turned down and power on leave it so
    ∷ record {
      chip = Sle4442;
      image = set (image4442 0x07) 256 0xFD;
      at = 1;
      messages =
          power_on
          ∷ select 0x06
          ∷ right4442
          ∷ command 0xD0 0x00 0x00 0x03 (0x09 ∷ 0x09 ∷ 0x09 ∷ [])
          ∷ command 0xD1 0x00 0x01 0x01 (0x08 ∷ [])
          ∷ unknown_type
          ∷ nine_bytes
          ∷ power_on
          ∷ [];
      came = true;
      carried = false;
      value = 0x13;
    }
    -- SLE4428: 3FCh is the last byte that D1 reaches; a byte of the code that came protected keeps its value
    ∷ record {
      chip = Sle4428;
      image = image4428 0xFF;
      at = 0x3FC;
      messages = power_on ∷ select 0x05 ∷ right4428 ∷ command 0xD1 0x03 0xFC 0x01 (0x00 ∷ []) ∷ command 0xD0 0x03 0xFC 0x01 (0x09 ∷ []) ∷ [];
      came = false;
      carried = true;
      value = 0x00;
    }
    ∷ record {
      chip = Sle4428;
      image = set (image4428 0xFF) 1151 0xBF;
      at = 0x3FE;
      messages = power_on ∷ select 0x05 ∷ right4428 ∷ command 0xD0 0x03 0xFE 0x02 (0x44 ∷ 0x55 ∷ []) ∷ [];
      came = true;
      carried = false;
      value = 0x11;
    }
    -- SLE4418: D1 reaches 3FDh to 3FFh; D0 stores where it carried another value
    ∷ record {
      chip = Sle4418;
      image = image4418;
      at = 0x3FF;
      messages =
          power_on ∷ select 0x05 ∷ command 0xD1 0x03 0xFD 0x03 (0x05 ∷ 0x00 ∷ 0x07 ∷ []) ∷ command 0xD0 0x03 0xFE 0x02 (0x09 ∷ 0x09 ∷ []) ∷ [];
      came = false;
      carried = true;
      value = 0x07;
    }
    ∷ record {
      chip = Sle4418;
      image = image4418;
      at = 0x3FE;
      messages =
          power_on ∷ select 0x05 ∷ command 0xD1 0x03 0xFD 0x03 (0x05 ∷ 0x00 ∷ 0x07 ∷ []) ∷ command 0xD0 0x03 0xFE 0x01 (0x09 ∷ []) ∷ [];
      came = false;
      carried = false;
      value = 0x09;
    }
    ∷ record {
      chip = Sle4418;
      image = set image4418 1151 0xDF;
      at = 0x3FD;
      messages = power_on ∷ select 0x05 ∷ command 0xD0 0x03 0xFD 0x01 (0x09 ∷ []) ∷ command 0xD1 0x03 0xFD 0x01 (0x09 ∷ []) ∷ unknown_type ∷ nine_bytes ∷ [];
      came = true;
      carried = false;
      value = 0x05;
    }
    -- SLE4432: D1 reaches 1Fh, and 20h has no bit
    ∷ record {
      chip = Sle4432;
      image = image4432;
      at = 0x1F;
      messages = power_on ∷ select 0x06 ∷ command 0xD1 0x00 0x1F 0x01 (0x00 ∷ []) ∷ command 0xD0 0x00 0x1F 0x02 (0x09 ∷ 0x09 ∷ []) ∷ [];
      came = false;
      carried = true;
      value = 0x00;
    }
    ∷ record {
      chip = Sle4432;
      image = image4432;
      at = 0x20;
      messages = power_on ∷ select 0x06 ∷ command 0xD1 0x00 0x20 0x01 (0x00 ∷ []) ∷ command 0xD0 0x00 0x20 0x01 (0x09 ∷ []) ∷ [];
      came = false;
      carried = false;
      value = 0x09;
    }
    -- I2C 1 kbit: no bits, and D1 is 6D 00
    ∷ record {
      chip = I2c1;
      image = replicate 128 0xFF;
      at = 0;
      messages = power_on ∷ select 0x01 ∷ command 0xD1 0x00 0x00 0x01 (0xFF ∷ []) ∷ command 0xD0 0x00 0x00 0x01 (0x09 ∷ []) ∷ [];
      came = false;
      carried = false;
      value = 0x09;
    }
    ∷ []
