-- Commands to the two large I2C cards, worked by hand: what each says, and bytes of the image at the end.
--
-- These are pseudo-APDUs and not messages: to carry one, tests 3 and 4 look through the whole image, which takes the prover seconds for each.
-- What a message does with its pseudo-APDU is `commanded` of it (`transfer_does`).
use Rattle.std.specs.Prelude.{ℕ, ◌+◌, Bool, true, false, List, [], ◌∷◌, length, take, drop, replicate}
use Rattle.words.specs.Choice.{◌⇒◌⁏◌, ◌and◌}
use Rattle.words.specs.Bytes.{same}
use Rattle.chips.specs.declared.Chip.{Chip}
use Rattle.chips.specs.declared.Chip.TheVariants.{I2c1, I2c256, I2c512, I2c1024}
use Rattle.chips.specs.Kinds.{facts}
use Rattle.slot.specs.declared.Slot.{Slot}
use Rattle.slot.specs.Slots.{paged, powered}
use Rattle.orders.specs.Orders.{commanded}
use Rattle.vectors.specs.Sessions.{fresh, selected_slot}

pub record Obeyed : Type 0 where
  pub chip : Chip
  pub slot : Slot
  -- the image is the card's size, all of this byte
  pub fill : ℕ
  pub commands : List (List ℕ)
  pub said : List (List ℕ)
  -- the bytes that stand in the image at the end, from an address on
  pub address : ℕ
  pub bytes : List ℕ

-- one command after the other, each on the slot and the image that the last one left
unfoldable pub follows : Obeyed → Slot → List ℕ → List (List ℕ) → List (List ℕ) → Bool
follows w s image [] [] = same (take (length w.bytes) (drop w.address image)) w.bytes
follows w s image [] (a ∷ as') = false
follows w s image (d ∷ ds) [] = false
follows w s image (d ∷ ds) (a ∷ as') = let e = commanded (facts w.chip) s image d in same e.said a and follows w e.slot e.image ds as'

unfoldable pub obeyed : Obeyed → Bool
obeyed w = follows w w.slot (replicate (facts w.chip).size w.fill) w.commands w.said

-- the number of the first row that does not hold, the first row being number k; 0 where all hold
unfoldable pub disobeyed : ℕ → List Obeyed → ℕ
disobeyed k [] = 0
disobeyed k (w ∷ ws) = let later = disobeyed (k + 1) ws in obeyed w ⇒ later ⁏ k

-- INS, P1, P2, P3 and data; a status word
abbrev pub apdu_of : ℕ → ℕ → ℕ → ℕ → List ℕ → List ℕ
apdu_of ins p1 p2 p3 data' = 0xFF ∷ ins ∷ p1 ∷ p2 ∷ p3 ∷ data'

abbrev pub word : ℕ → ℕ → List ℕ
word high low = high ∷ low ∷ []

unfoldable pub large_commands : List Obeyed
large_commands =
    -- 1. I2C 1024 kbit: D0 at 0FFFFh runs over 0FFFFh/10000h, and B0 reads it back there; B1 at 0000h reads from 10000h on, and 00000h is as it was
    record {
      chip = I2c1024;
      slot = selected_slot I2c1024;
      fill = 0xFF;
      commands =
          apdu_of 0xD0 0xFF 0xFF 0x02 (0x01 ∷ 0x02 ∷ [])
          ∷ apdu_of 0xB0 0xFF 0xFF 0x02 []
          ∷ apdu_of 0xB1 0x00 0x00 0x01 []
          ∷ apdu_of 0xB0 0x00 0x00 0x01 []
          ∷ [];
      said =
          word 0x90 0x00
          ∷ (0x01 ∷ 0x02 ∷ word 0x90 0x00)
          ∷ (0x02 ∷ word 0x90 0x00)
          ∷ (0xFF ∷ word 0x90 0x00)
          ∷ [];
      address = 0x0FFFE;
      bytes = 0xFF ∷ 0x01 ∷ 0x02 ∷ 0xFF ∷ [];
    }
    -- 2. D1 writes with the top bit, D0 without it; the last byte is 1FFFFh
    ∷ record {
      chip = I2c1024;
      slot = selected_slot I2c1024;
      fill = 0x00;
      commands =
          apdu_of 0xD0 0x00 0x00 0x01 (0x07 ∷ [])
          ∷ apdu_of 0xD1 0x00 0x00 0x01 (0x05 ∷ [])
          ∷ apdu_of 0xB0 0x00 0x00 0x02 []
          ∷ apdu_of 0xB1 0x00 0x00 0x01 []
          ∷ apdu_of 0xD1 0xFF 0xFF 0x01 (0x08 ∷ [])
          ∷ [];
      said =
          word 0x90 0x00
          ∷ word 0x90 0x00
          ∷ (0x07 ∷ 0x00 ∷ word 0x90 0x00)
          ∷ (0x05 ∷ word 0x90 0x00)
          ∷ word 0x90 0x00
          ∷ [];
      address = 0x1FFFE;
      bytes = 0x00 ∷ 0x08 ∷ [];
    }
    -- 3. what is refused there: past 1FFFFh; B1 and D1 with other lengths than B0 and D0; the commands that it has not. Nothing changed
    ∷ record {
      chip = I2c1024;
      slot = selected_slot I2c1024;
      fill = 0x00;
      commands =
          apdu_of 0xB1 0xFF 0xFF 0x02 []
          ∷ apdu_of 0xD1 0xFF 0xFF 0x02 (0x01 ∷ 0x02 ∷ [])
          ∷ apdu_of 0xB1 0x00 0x00 0x00 []
          ∷ apdu_of 0xB1 0x00 0x00 0x01 (0x01 ∷ [])
          ∷ apdu_of 0xD1 0x00 0x00 0x02 (0x01 ∷ [])
          ∷ apdu_of 0xD1 0x00 0x00 0x00 []
          ∷ apdu_of 0xB2 0x00 0x00 0x04 []
          ∷ apdu_of 0x20 0x00 0x00 0x03 (0x01 ∷ 0x02 ∷ 0x03 ∷ [])
          ∷ apdu_of 0xD2 0x00 0x01 0x03 (0x01 ∷ 0x02 ∷ 0x03 ∷ [])
          ∷ [];
      said =
          word 0x6B 0x00
          ∷ word 0x6B 0x00
          ∷ word 0x67 0x00
          ∷ word 0x67 0x00
          ∷ word 0x67 0x00
          ∷ word 0x67 0x00
          ∷ word 0x6D 0x00
          ∷ word 0x6D 0x00
          ∷ word 0x6D 0x00
          ∷ [];
      address = 0;
      bytes = 0x00 ∷ 0x00 ∷ [];
    }
    -- 4. no type selected: 69 85; the type is 02h
    ∷ record {
      chip = I2c1024;
      slot = powered true (fresh I2c1024);
      fill = 0x00;
      commands =
          apdu_of 0xB1 0x00 0x00 0x01 []
          ∷ apdu_of 0xD1 0x00 0x00 0x01 (0x01 ∷ [])
          ∷ apdu_of 0xA4 0x00 0x00 0x01 (0x01 ∷ [])
          ∷ apdu_of 0xA4 0x00 0x00 0x01 (0x02 ∷ [])
          ∷ apdu_of 0xB0 0x00 0x00 0x01 []
          ∷ [];
      said = word 0x69 0x85 ∷ word 0x69 0x85 ∷ word 0x6A 0x80 ∷ word 0x90 0x00 ∷ (0x00 ∷ word 0x90 0x00) ∷ [];
      address = 0;
      bytes = 0x00 ∷ [];
    }
    -- 5. I2C 512 kbit: memory ends at 0FFFFh, and B1 and D1 are none of its commands
    ∷ record {
      chip = I2c512;
      slot = selected_slot I2c512;
      fill = 0x00;
      commands =
          apdu_of 0xD0 0xFF 0xFF 0x02 (0x02 ∷ 0x03 ∷ [])
          ∷ apdu_of 0xB0 0xFF 0xFF 0x02 []
          ∷ apdu_of 0xB1 0x00 0x00 0x01 []
          ∷ apdu_of 0xD1 0x00 0x00 0x01 (0x01 ∷ [])
          ∷ apdu_of 0xD0 0xFF 0xFF 0x01 (0x01 ∷ [])
          ∷ apdu_of 0xB0 0xFF 0xFF 0x01 []
          ∷ [];
      said =
          word 0x6B 0x00
          ∷ word 0x6B 0x00
          ∷ word 0x6D 0x00
          ∷ word 0x6D 0x00
          ∷ word 0x90 0x00
          ∷ (0x01 ∷ word 0x90 0x00)
          ∷ [];
      address = 0;
      bytes = 0x00 ∷ 0x00 ∷ [];
    }
    -- 6. chip page 128, reader page 128: bytes over a page's end lie where they were sent, and nothing runs round
    ∷ record {
      chip = I2c512;
      slot = paged 128 (selected_slot I2c512);
      fill = 0x00;
      commands = apdu_of 0xD0 0x00 0x7E 0x04 (0x01 ∷ 0x02 ∷ 0x03 ∷ 0x04 ∷ []) ∷ [];
      said = word 0x90 0x00 ∷ [];
      address = 0x0007D;
      bytes = 0x00 ∷ 0x01 ∷ 0x02 ∷ 0x03 ∷ 0x04 ∷ 0x00 ∷ [];
    }
    -- 7. and 8. on the smallest and the largest of the other I2C cards B1 and D1 are 6D 00 as they were
    ∷ record {
      chip = I2c1;
      slot = selected_slot I2c1;
      fill = 0x00;
      commands = apdu_of 0xB1 0x00 0x00 0x01 [] ∷ apdu_of 0xD1 0x00 0x00 0x01 (0x01 ∷ []) ∷ [];
      said = word 0x6D 0x00 ∷ word 0x6D 0x00 ∷ [];
      address = 0;
      bytes = 0x00 ∷ [];
    }
    ∷ record {
      chip = I2c256;
      slot = selected_slot I2c256;
      fill = 0x00;
      commands = apdu_of 0xB1 0x00 0x00 0x01 [] ∷ apdu_of 0xD1 0x00 0x00 0x01 (0x01 ∷ []) ∷ [];
      said = word 0x6D 0x00 ∷ word 0x6D 0x00 ∷ [];
      address = 0;
      bytes = 0x00 ∷ [];
    }
    ∷ []
