-- The table of wrong readers, fifth part: D0 over protected bytes.
use Rattle.std.specs.Prelude.{ℕ, List, [], ◌∷◌, ◌++◌, set}
use Rattle.chips.specs.declared.Chip.TheVariants.{I2c1, Sle4428, Sle4418, Sle4442, Sle4432}
use Rattle.slot.specs.Slots.{paged}
use Rattle.vectors.specs.Plain.{image4418, image4432}
use Rattle.wrong.specs.Wrong.{Reader}
use Rattle.wrong.specs.Caught.{Witness}
use Rattle.wrong.specs.Inputs.{shut, wide, mem4442, mem4428, kept4442, kept4428, kept4418, kept4432, mem_i2c, ask, sixteen, on}
use Rattle.wrong.specs.WrongStores as stores

-- one message on each of the four kinds, byte 1 protected, the code cards open
abbrev pub on_each : Reader → List ℕ → List Witness
on_each w m = on w (wide Sle4428) kept4428 m ∷ on w (shut Sle4418) kept4418 m ∷ on w (wide Sle4442) kept4442 m ∷ on w (shut Sle4432) kept4432 m ∷ []

-- D0 of 05 06 07 from 0 on, and of 06 to byte 1
abbrev pub three : List ℕ
three = ask 0xD0 0x00 0x00 0x03 (0x05 ∷ 0x06 ∷ 0x07 ∷ [])

abbrev pub second : List ℕ
second = ask 0xD0 0x00 0x01 0x01 (0x06 ∷ [])

abbrev pub store_rows : List Witness
store_rows =
    on_each stores.asks_step10 three
    ++ on_each stores.stores_kept second
    ++ (on stores.stores_kept_plain (shut Sle4418) kept4418 second
    ∷ on stores.stores_kept_plain (shut Sle4432) kept4432 second
    ∷ on stores.stores_kept_3fd (shut Sle4418) (set image4418 1151 0xDF) (ask 0xD0 0x03 0xFD 0x01 (0x09 ∷ []))
    ∷ on stores.stores_kept_3fd (shut Sle4418) (set image4418 1151 0x7F) (ask 0xD0 0x03 0xFD 0x03 (0x08 ∷ 0x09 ∷ 0x0A ∷ []))
    ∷ on stores.stores_kept_code (wide Sle4428) (set mem4428 1151 0xBF) (ask 0xD0 0x03 0xFE 0x02 (0x44 ∷ 0x55 ∷ []))
    ∷ on stores.looks_at_first (wide Sle4442) kept4442 three
    ∷ on stores.misses_last (wide Sle4442) kept4442 (ask 0xD0 0x00 0x00 0x02 (0x05 ∷ 0x06 ∷ []))
    ∷ [])
    ++ on_each stores.skips_next three
    ++ on_each stores.skips_before three
    ++ on_each stores.stops_at_kept three
    ++ on_each stores.stores_none three
    ++ (on stores.ones_protect (wide Sle4442) mem4442 second
    ∷ on stores.bits_round (wide Sle4442) kept4442 (ask 0xD0 0x00 0x21 0x01 (0x05 ∷ []))
    ∷ on stores.bits_round (shut Sle4432) kept4432 (ask 0xD0 0x00 0x21 0x01 (0x05 ∷ []))
    ∷ on stores.passes_bare (wide Sle4442) mem4442 (ask 0xD0 0x00 0x20 0x01 (0x05 ∷ []))
    ∷ on stores.passes_bare (shut Sle4432) image4432 (ask 0xD0 0x00 0x20 0x01 (0x05 ∷ []))
    ∷ on stores.slides (wide Sle4442) kept4442 three
    ∷ [])
    ++ on_each stores.reports_done three
    ++ (on stores.reports_unequal (wide Sle4428) mem4428 three
    ∷ on stores.reports_unequal (shut Sle4418) image4418 three
    ∷ on stores.reports_unequal (wide Sle4442) mem4442 three
    ∷ on stores.reports_unequal (shut Sle4432) image4432 three
    ∷ [])
    ++ on_each stores.reports_first three
    ++ on_each stores.reports_last three
    ++ (on stores.reports_some (wide Sle4442) kept4442 three
    ∷ on stores.reports_kept (wide Sle4428) kept4428 (ask 0xD0 0x00 0x01 0x01 (0x00 ∷ []))
    ∷ on stores.reports_kept (shut Sle4418) kept4418 (ask 0xD0 0x00 0x01 0x01 (0x13 ∷ []))
    ∷ on stores.reports_kept (wide Sle4442) kept4442 (ask 0xD0 0x00 0x01 0x01 (0x13 ∷ []))
    ∷ on stores.reports_kept (shut Sle4432) kept4432 (ask 0xD0 0x00 0x01 0x01 (0x13 ∷ []))
    ∷ on stores.reports_before (wide Sle4442) mem4442 second
    ∷ on stores.reports_pages (paged 16 (shut I2c1)) mem_i2c (ask 0xD0 0x00 0x00 0x10 sixteen)
    ∷ on stores.pages_unequal (shut I2c1) mem_i2c second
    ∷ on (stores.rewords_unequal (0x69 ∷ 0x82 ∷ [])) (wide Sle4442) kept4442 three
    ∷ on (stores.rewords_unequal (0x65 ∷ 0x00 ∷ [])) (wide Sle4442) kept4442 three
    ∷ on stores.unequal_closes (wide Sle4428) kept4428 three
    ∷ on stores.unequal_closes (wide Sle4442) kept4442 three
    ∷ on stores.unequal_burns (wide Sle4428) kept4428 three
    ∷ on stores.unequal_burns (wide Sle4442) kept4442 three
    ∷ [])
    ++ on_each stores.unequal_frees three
    ++ (on stores.unequal_fails (wide Sle4442) kept4442 three
    ∷ on stores.protects_once (wide Sle4442) kept4442 (ask 0xD1 0x00 0x01 0x01 (0x13 ∷ []))
    ∷ [])
