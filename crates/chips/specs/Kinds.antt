-- "Cards we model": the kinds of card, as one table of numbers. A new kind is a new row here; the rules below speak of a row's numbers and
-- never of chips. What each number is, the struct `Facts` says.
use Rattle.std.specs.Prelude.{ℕ, true, false, List, [], ◌∷◌, Option, Some, None}
use Rattle.words.specs.Choice.{◌⇒◌⁏◌, ◌is◌}
use Rattle.chips.specs.declared.Chip.{Chip}
use Rattle.chips.specs.declared.Chip.TheVariants.{I2c1, I2c2, I2c4, I2c8, I2c16, I2c32, I2c64, I2c128, I2c256, I2c512, I2c1024, Sle4428, Sle4418, Sle4442, Sle4432}
use Rattle.chips.specs.declared.Facts.{Facts}

-- An I2C card is memory alone: counter, code and protection bytes would stand past its end, and there are none.
abbrev pub i2c : ℕ → ℕ → ℕ → ℕ → Facts
i2c k n p t = record {
  kind = k;
  size = n;
  memory = n;
  page = p;
  selects = t;
  coded = false;
  full = 0;
  counter = n;
  code = n;
  digits = 0;
  bits = n;
  covered = 0;
  reach = 0;
  zeros = n;
}

-- 02: "Kinds 21 and 31: images and types as 20 and 30, but no code". Such a card is memory and protection bytes; counter and code would stand past
-- its end. D1 reaches every byte that has a bit.
abbrev pub without_code : ℕ → ℕ → ℕ → ℕ → ℕ → ℕ → Facts
without_code k n m t c z = record {
  kind = k;
  size = n;
  memory = m;
  page = 0;
  selects = t;
  coded = false;
  full = 0;
  counter = n;
  code = n;
  digits = 0;
  bits = m;
  covered = c;
  reach = c;
  zeros = z;
}

-- I2C: kind, image bytes, chip page, select type. Without a code: kind, image bytes, memory bytes, select type, how many of them have a
-- protection bit, from where on the image is 00h
abbrev pub facts : Chip → Facts
facts I2c1 = i2c 1 128 8 0x01
facts I2c2 = i2c 2 256 8 0x01
facts I2c4 = i2c 3 512 16 0x01
facts I2c8 = i2c 4 1024 16 0x01
facts I2c16 = i2c 5 2048 16 0x01
facts I2c32 = i2c 6 4096 32 0x02
facts I2c64 = i2c 7 8192 32 0x02
facts I2c128 = i2c 8 16384 64 0x02
facts I2c256 = i2c 9 32768 64 0x02
-- 02: "kinds 10 and 11, 65536 and 131072 bytes, chip pages 128 and 256, type 02h"
facts I2c512 = i2c 10 65536 128 0x02
facts I2c1024 = i2c 11 131072 256 0x02
-- SLE4428 image: 1024 memory bytes, of which 3FDh is the counter and 3FEh, 3FFh the code, then 128 protection bytes
facts Sle4428 = record {
  kind = 20;
  size = 1152;
  memory = 1024;
  page = 0;
  selects = 0x05;
  coded = true;
  full = 0xFF;
  counter = 0x3FD;
  code = 0x3FE;
  digits = 2;
  bits = 1024;
  covered = 1024;
  reach = 0x3FD;
  zeros = 1152;
}
-- SLE4418: "bytes 3FDh to 3FFh are plain memory with their protection bits honoured, read in clear, and D0 and D1 may reach them"
facts Sle4418 = without_code 21 1152 1024 0x05 1024 1152
-- SLE4442 image: 256 memory bytes, 4 protection bytes (memory 0..31), counter, 3 code bytes
facts Sle4442 = record {
  kind = 30;
  size = 264;
  memory = 256;
  page = 0;
  selects = 0x06;
  coded = true;
  full = 0x07;
  counter = 260;
  code = 261;
  digits = 3;
  bits = 256;
  covered = 32;
  reach = 32;
  zeros = 264;
}
-- SLE4432: "the last four image bytes must be 00h and never change"
facts Sle4432 = without_code 31 264 256 0x06 32 260

-- every chip, once
abbrev pub chips : List Chip
chips = I2c1 ∷ I2c2 ∷ I2c4 ∷ I2c8 ∷ I2c16 ∷ I2c32 ∷ I2c64 ∷ I2c128 ∷ I2c256 ∷ I2c512 ∷ I2c1024 ∷ Sle4428 ∷ Sle4418 ∷ Sle4442 ∷ Sle4432 ∷ []

-- the chip of a kind number: the one whose row has it
unfoldable pub chip_among : ℕ → List Chip → Option Chip
chip_among k [] = None
chip_among k (chip ∷ rest) = let later = chip_among k rest in k is (facts chip).kind ⇒ Some chip ⁏ later

unfoldable pub chip_of : ℕ → Option Chip
chip_of k = chip_among k chips
