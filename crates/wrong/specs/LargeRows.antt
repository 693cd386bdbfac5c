-- The table of wrong readers: the large I2C cards.
use Rattle.std.specs.Prelude.{List, [], ◌∷◌, replicate}
use Rattle.chips.specs.declared.Chip.TheVariants.{I2c1, I2c512, I2c1024}
use Rattle.wrong.specs.Caught.{Witness, by_command, by_row}
use Rattle.wrong.specs.Inputs.{ask}
use Rattle.wrong.specs.WrongLarge as larges

abbrev pub large_rows : List Witness
large_rows =
    by_command larges.drops_top I2c1024 8 (ask 0xB1 0x00 0x00 0x01 [])
    ∷ by_command larges.drops_top I2c1024 8 (ask 0xD1 0x00 0x00 0x01 (0x05 ∷ []))
    ∷ by_command (larges.raises 0xB0) I2c1024 8 (ask 0xB0 0x00 0x00 0x01 [])
    ∷ by_command (larges.raises 0xD0) I2c1024 8 (ask 0xD0 0x00 0x00 0x01 (0x05 ∷ []))
    ∷ by_command larges.reads_round I2c1024 8 (ask 0xB0 0xFF 0xFF 0x02 [])
    ∷ by_command larges.writes_round I2c1024 8 (ask 0xD0 0xFF 0xFF 0x02 (0x05 ∷ 0x06 ∷ []))
    ∷ by_command (larges.takes_b1 10) I2c512 8 (ask 0xB1 0x00 0x00 0x01 [])
    ∷ by_command (larges.takes_d1 10) I2c512 8 (ask 0xD1 0x00 0x00 0x01 (0x05 ∷ []))
    ∷ by_command (larges.takes_b1 1) I2c1 8 (ask 0xB1 0x00 0x00 0x01 [])
    ∷ by_command (larges.takes_d1 1) I2c1 8 (ask 0xD1 0x00 0x00 0x01 (0x05 ∷ []))
    ∷ by_command (larges.knows_b1 10) I2c512 8 (ask 0xB1 0x00 0x00 0x01 [])
    ∷ by_command larges.drops_both I2c1024 8 (ask 0xB1 0x00 0x00 0x01 [])
    ∷ by_command larges.drops_both I2c1024 8 (ask 0xD1 0x00 0x00 0x01 (0x05 ∷ []))
    ∷ by_command larges.counter_length I2c1024 8 (ask 0xB1 0x00 0x00 0x02 [])
    ∷ by_command larges.counter_place I2c1024 8 (ask 0xB1 0x00 0x01 0x01 [])
    ∷ by_command larges.protect_place I2c1024 8 (ask 0xD1 0x00 0x00 0x01 (0x05 ∷ []))
    ∷ by_command larges.reads_top_with_data I2c1024 8 (ask 0xB1 0x00 0x00 0x01 (0x05 ∷ []))
    ∷ by_command larges.stores_no_top I2c1024 8 (ask 0xD1 0x00 0x00 0x01 (0x05 ∷ []))
    ∷ by_command larges.ends_at_64k I2c1024 8 (ask 0xD1 0x00 0x00 0x01 (0x05 ∷ []))
    ∷ by_command larges.ends_first_half I2c1024 8 (ask 0xB0 0xFF 0xFF 0x02 [])
    ∷ by_command larges.ends_first_half I2c1024 8 (ask 0xD0 0xFF 0xFF 0x02 (0x05 ∷ 0x06 ∷ []))
    ∷ by_command (larges.sums_in 65536) I2c512 8 (ask 0xD0 0xFF 0xFF 0x02 (0x05 ∷ 0x06 ∷ []))
    ∷ by_command (larges.sums_in 131072) I2c1024 8 (ask 0xD1 0xFF 0xFF 0x02 (0x05 ∷ 0x06 ∷ []))
    ∷ by_command (larges.chip_page 10 64) I2c512 128 (ask 0xD0 0x00 0x00 0x41 (0x02 ∷ replicate 64 0x01))
    ∷ by_command (larges.chip_page 11 64) I2c1024 128 (ask 0xD0 0x00 0x00 0x41 (0x02 ∷ replicate 64 0x01))
    ∷ by_row (larges.row_page 128) I2c1024
    ∷ by_row (larges.row_page 256) I2c512
    ∷ []
