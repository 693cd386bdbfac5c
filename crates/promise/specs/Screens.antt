-- Visits of cards and what a status screen shows of each, worked by hand: the two counts after the insertion and after every message.
use Rattle.std.specs.Prelude.{ℕ, ◌+◌, Bool, true, false, List, [], ◌∷◌, ◌++◌, map, replicate, set}
use Rattle.std.proofs.lemmas.List.Edits.{sets}
use Rattle.words.specs.Choice.{◌⇒◌⁏◌, ◌and◌, ◌is◌}
use Rattle.chips.specs.declared.Chip.{Chip}
use Rattle.chips.specs.declared.Chip.TheVariants.{I2c1, Sle4428, Sle4418, Sle4442, Sle4432}
use Rattle.chips.specs.Kinds.{facts}
use Rattle.slot.specs.declared.Slot.{Slot}
use Rattle.slot.specs.Slots.{removed}
use Rattle.frame.specs.Exchange.{Outcome, insertion}
use Rattle.reader.specs.Runs.{run}
use Rattle.vectors.specs.Sessions.{lent, image4442, image4428, wrong4442, right4442}
use Rattle.vectors.specs.Plain.{guarded4418, image4432, command}
use Rattle.promise.specs.Visits.{power_on, select, wrong4428, right4428, change4442}
use Rattle.promise.specs.Guarded.{unknown_type, nine_bytes}

-- a card, the messages sent, and a test of the slot record for the insertion and for every message
pub record Screen : Type 0 where
  pub chip : Chip
  pub image : List ℕ
  pub messages : List (List ℕ)
  pub lines : List (Slot → Bool)

-- a line of the screen: the record has these counts
abbrev pub line : ℕ → ℕ → Slot → Bool
line t p s = s.tries is t and s.protected is p

-- ---- when a row is as said
unfoldable pub same_lines : List Slot → List (Slot → Bool) → Bool
same_lines [] [] = true
same_lines [] (l ∷ ls) = false
same_lines (s ∷ ss) [] = false
same_lines (s ∷ ss) (l ∷ ls) = l s and same_lines ss ls

-- the insertion is accepted, and the record passes every test in its turn
unfoldable pub as_shown : Screen → Bool
as_shown v =
    let f = facts v.chip in
    let put = insertion removed f.kind v.image in
    put.number is 0
    and same_lines (put.slot ∷ map (λ (o : Outcome). o.slot) (run put.slot put.image (lent v.messages)).outcomes) v.lines

-- the number of the first row that is not, the first row being number k; 0 where all are
unfoldable pub unshown : ℕ → List Screen → ℕ
unshown k [] = 0
unshown k (v ∷ vs) = let later = unshown (k + 1) vs in as_shown v ⇒ later ⁏ k

unfoldable pub screens : List Screen
screens =
    -- SLE4442 with all tries: two wrong codes, the right one; D1 over 0 to 3, of which byte 3 is another; again with all four; D0, D2 and power keep both
    record {
      chip = Sle4442;
      image = image4442 0x07;
      messages =
          power_on
          ∷ select 0x06
          ∷ wrong4442
          ∷ wrong4442
          ∷ right4442
          ∷ command 0xD1 0x00 0x00 0x04 (0xA2 ∷ 0x13 ∷ 0x10 ∷ 0x90 ∷ [])
          ∷ command 0xD1 0x00 0x00 0x04 (0xA2 ∷ 0x13 ∷ 0x10 ∷ 0x91 ∷ [])
          ∷ command 0xD0 0x00 0x00 0x04 (0x01 ∷ 0x02 ∷ 0x03 ∷ 0x04 ∷ [])
          ∷ change4442
          ∷ power_on
          ∷ [];
      lines = line 3 0 ∷ line 3 0 ∷ line 3 0 ∷ line 2 0 ∷ line 1 0 ∷ line 3 0 ∷ line 3 3 ∷ line 3 4 ∷ line 3 4 ∷ line 3 4 ∷ line 3 4 ∷ [];
    }
    -- counter 05h is two tries. Three wrong codes, the last of which meets none; then the right one, which meets none either
    ∷ record {
      chip = Sle4442;
      image = image4442 0x05;
      messages = power_on ∷ select 0x06 ∷ wrong4442 ∷ wrong4442 ∷ wrong4442 ∷ right4442 ∷ [];
      lines = line 2 0 ∷ line 2 0 ∷ line 2 0 ∷ line 1 0 ∷ line 0 0 ∷ line 0 0 ∷ line 0 0 ∷ [];
    }
    -- closed, D1 is refused; a message that fails and one that is turned down keep both
    ∷ record {
      chip = Sle4442;
      image = sets (image4442 0x04) 256 (0x00 ∷ 0xFF ∷ 0x7F ∷ 0xFE ∷ []);
      messages = power_on ∷ select 0x06 ∷ command 0xD1 0x00 0x08 0x01 (0x00 ∷ []) ∷ unknown_type ∷ nine_bytes ∷ wrong4442 ∷ [];
      lines = line 1 10 ∷ line 1 10 ∷ line 1 10 ∷ line 1 10 ∷ line 1 10 ∷ line 1 10 ∷ line 0 10 ∷ [];
    }
    -- SLE4428: eight tries, and 3FCh is the last byte that D1 reaches
    ∷ record {
      chip = Sle4428;
      image = image4428 0xFF;
      messages = power_on ∷ select 0x05 ∷ wrong4428 ∷ wrong4428 ∷ right4428 ∷ command 0xD1 0x03 0xFC 0x01 (0x00 ∷ []) ∷ command 0xD1 0x03 0xFC 0x01 (0x00 ∷ []) ∷ [];
      lines = line 8 0 ∷ line 8 0 ∷ line 8 0 ∷ line 7 0 ∷ line 6 0 ∷ line 8 0 ∷ line 8 1 ∷ line 8 1 ∷ [];
    }
    -- one with every byte protected that may be: 3FDh is its counter
    ∷ record {
      chip = Sle4428;
      image = replicate 1021 0 ++ (0x10 ∷ 0x11 ∷ 0x22 ∷ []) ++ replicate 127 0x00 ++ (0x20 ∷ []);
      messages = power_on ∷ select 0x05 ∷ right4428 ∷ [];
      lines = line 1 1023 ∷ line 1 1023 ∷ line 1 1023 ∷ line 8 1023 ∷ [];
    }
    -- SLE4418 with bytes 1 to 255 protected: byte 0 makes 256, and 3FDh to 3FFh, of which 3FEh is another, make 258
    ∷ record {
      chip = Sle4418;
      image = guarded4418 ((0x01 ∷ replicate 31 0x00) ++ replicate 96 0xFF);
      messages =
          power_on
          ∷ select 0x05
          ∷ command 0xD1 0x00 0x00 0x02 (0xA2 ∷ 0x13 ∷ [])
          ∷ command 0xD1 0x03 0xFD 0x03 (0x05 ∷ 0x00 ∷ 0x07 ∷ [])
          ∷ command 0xD0 0x03 0xFD 0x03 (0x09 ∷ 0x09 ∷ 0x09 ∷ [])
          ∷ [];
      lines = line 0 255 ∷ line 0 255 ∷ line 0 255 ∷ line 0 256 ∷ line 0 258 ∷ line 0 258 ∷ [];
    }
    ∷ record { chip = Sle4418; image = guarded4418 (replicate 128 0x00); messages = power_on ∷ []; lines = line 0 1024 ∷ line 0 1024 ∷ [] }
    -- SLE4432: byte 1 came protected; D1 over 0 to 1Fh adds 31
    ∷ record {
      chip = Sle4432;
      image = set image4432 256 0xFD;
      messages = power_on ∷ select 0x06 ∷ command 0xD1 0x00 0x00 0x20 (0xA2 ∷ 0x13 ∷ 0x10 ∷ 0x91 ∷ replicate 28 0x00) ∷ [];
      lines = line 0 1 ∷ line 0 1 ∷ line 0 1 ∷ line 0 32 ∷ [];
    }
    -- I2C: neither, whatever the bytes are
    ∷ record {
      chip = I2c1;
      image = replicate 128 0x00;
      messages = power_on ∷ select 0x01 ∷ command 0xD0 0x00 0x00 0x01 (0x09 ∷ []) ∷ command 0xD1 0x00 0x00 0x01 (0x09 ∷ []) ∷ [];
      lines = line 0 0 ∷ line 0 0 ∷ line 0 0 ∷ line 0 0 ∷ line 0 0 ∷ [];
    }
    ∷ []
