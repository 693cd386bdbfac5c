-- Visits from the insertion on, of all four kinds with protection bits and of I2C cards, whose D0 meets what the theorems of `Stored` and `Paged` ask:
-- the rules are computed.
use mathlib.Core.Path.{◌≡◌, refl}
use mathlib.Core.Bool.{true}
use mathlib.Core.List.{List, [], ◌∷◌, ◌++◌}
use Prim.Native.Nat.{ℕ, ◌+◌}
use native.Mathlib.Omega.{arith}
use lib.ListN.{length, take, drop, replicate, set}
use Rattle.words.specs.Bounds.{least_room}
use Rattle.chips.specs.declared.Chip.{Chip}
use Rattle.chips.specs.declared.Chip.TheVariants.{I2c1, I2c1024, Sle4428, Sle4418, Sle4442, Sle4432}
use Rattle.chips.specs.Kinds.{facts}
use Rattle.slot.specs.Slots.{removed}
use Rattle.pages.specs.Cuts.{Paged}
use Rattle.orders.specs.Orders.{done}
use Rattle.std.specs.Prelude.{None}
use Rattle.faults.specs.declared.Request.TheVariants.{Transfer}
use Rattle.frame.specs.Answers.{answer}
use Rattle.reader.specs.Runs.{Sent, Run, sending}
use Rattle.reader.specs.Rules.{rules}
use Rattle.reader.specs.Heard.{heard}
use Rattle.vectors.specs.Sessions.{lent, selected_slot, image4442, image4428, right4442, transfer}
use Rattle.vectors.specs.Plain.{image4418, image4432, command}
use Rattle.promise.specs.Tries.{run_from}
use Rattle.promise.specs.Visits.{power_on, select, right4428}
use Rattle.promise.specs.Stored.{sent_by, Stored}
use Rattle.promise.specs.Seats.{seated, seat_image}
use Rattle.promise.proofs.Stored.{message_stored, message_done}
use Rattle.promise.proofs.Seats.{seat_heard}
use Rattle.promise.proofs.Paged.{message_paged, message_range}

-- a card put in, powered, its type selected, and what else is sent before the D0
abbrev came : Chip → List ℕ → List (List ℕ) → Run
came chip image more = run_from removed (facts chip).kind image (lent (power_on ∷ select (facts chip).selects ∷ more))

-- a D0 with P1P2 and these bytes
abbrev write : ℕ → ℕ → ℕ → List ℕ → Sent
write high low n data' = record { message = command 0xD0 high low n data'; room = least_room }

-- what the theorem then says of the image
abbrev Wrote : Chip → Run → Sent → ℕ → Type 0
Wrote chip u m at = Stored (facts chip) u.image at (sent_by m) (sending u.slot u.image m).image

-- SLE4442, opened: bytes 0 to 3, of which 1 is protected
abbrev in4442 : Run
in4442 = came Sle4442 (set (image4442 0x07) 256 0xFD) (right4442 ∷ [])

abbrev to4442 : Sent
to4442 = write 0x00 0x00 0x04 (0x01 ∷ 0x02 ∷ 0x03 ∷ 0x04 ∷ [])

pub wrote4442 : Wrote Sle4442 in4442 to4442 0
unfolding rules heard lent transfer image4442
wrote4442 = message_stored Sle4442 in4442.slot in4442.image to4442 0 refl (record { is_heard = refl; asked = refl; ends = refl }) (omega arith)

-- SLE4428, opened: the code, of which the first byte is protected
abbrev in4428 : Run
in4428 = came Sle4428 (set (image4428 0xFF) 1151 0xBF) (right4428 ∷ [])

abbrev to4428 : Sent
to4428 = write 0x03 0xFE 0x02 (0x44 ∷ 0x55 ∷ [])

pub wrote4428 : Wrote Sle4428 in4428 to4428 0x3FE
unfolding rules heard lent transfer image4428
wrote4428 = message_stored Sle4428 in4428.slot in4428.image to4428 0x3FE refl (record { is_heard = refl; asked = refl; ends = refl }) (omega arith)

-- SLE4418: 3FCh to 3FFh, of which 3FDh and 3FFh are protected
abbrev in4418 : Run
in4418 = came Sle4418 (set image4418 1151 0x5F) []

abbrev to4418 : Sent
to4418 = write 0x03 0xFC 0x04 (0x01 ∷ 0x02 ∷ 0x03 ∷ 0x04 ∷ [])

pub wrote4418 : Wrote Sle4418 in4418 to4418 0x3FC
unfolding rules heard lent transfer image4418
wrote4418 = message_stored Sle4418 in4418.slot in4418.image to4418 0x3FC refl (record { is_heard = refl; asked = refl; ends = refl }) (omega arith)

-- SLE4432: 1Eh to 20h, of which 1Fh is protected and 20h has no bit
abbrev in4432 : Run
in4432 = came Sle4432 (set image4432 259 0x7F) []

abbrev to4432 : Sent
to4432 = write 0x00 0x1E 0x03 (0x01 ∷ 0x02 ∷ 0x03 ∷ [])

pub wrote4432 : Wrote Sle4432 in4432 to4432 0x1E
unfolding rules heard lent transfer image4432
wrote4432 = message_stored Sle4432 in4432.slot in4432.image to4432 0x1E refl (record { is_heard = refl; asked = refl; ends = refl }) (omega arith)

-- I2C 1 kbit, reader page 16: 16 bytes, which run round
abbrev in_i2c : Run
in_i2c = came I2c1 (replicate 128 0xFF) (command 0x01 0x00 0x00 0x01 (0x04 ∷ []) ∷ [])

abbrev to_i2c : Sent
to_i2c = write 0x00 0x00 0x10 (replicate 16 0x05)

pub done_i2c : (sending in_i2c.slot in_i2c.image to_i2c).answer ≡ answer Transfer to_i2c.message None in_i2c.slot done
unfolding rules heard lent transfer
done_i2c = message_done I2c1 in_i2c.slot in_i2c.image to_i2c 0 refl (record { is_heard = refl; asked = refl; ends = refl }) refl

-- and it leaves what the page rule says of a reader page that does not divide the chip page
pub paged_i2c : Paged 16 8 in_i2c.image 0 (sent_by to_i2c) (sending in_i2c.slot in_i2c.image to_i2c).image
unfolding rules heard lent transfer
paged_i2c = message_paged I2c1 in_i2c.slot in_i2c.image to_i2c 0 refl (record { is_heard = refl; asked = refl; ends = refl }) (omega arith)

-- I2C 1024 kbit: four bytes over 0FFFFh/10000h by D0, and two from 10000h on by D1. Reader page 128 is at most the chip page
abbrev over_border : Sent
over_border = write 0xFF 0xFE 0x04 (0x01 ∷ 0x02 ∷ 0x03 ∷ 0x04 ∷ [])

abbrev at_top : Sent
at_top = record { message = command 0xD1 0x00 0x00 0x02 (0x05 ∷ 0x06 ∷ []); room = least_room }

abbrev Wrote1024 : Sent → ℕ → Type 0
Wrote1024 m at =
    (sending (seated I2c1024 true 128) (seat_image I2c1024) m).image
    ≡ take at (seat_image I2c1024) ++ sent_by m ++ drop (at + length (sent_by m)) (seat_image I2c1024)

pub wrote_over : Wrote1024 over_border 0x0FFFE
unfolding rules transfer selected_slot
wrote_over =
    message_range I2c1024 (seated I2c1024 true 128) (seat_image I2c1024) over_border 0x0FFFE refl
    (record { is_heard = seat_heard I2c1024 (omega arith) true 128 refl over_border.message refl refl refl; asked = refl; ends = refl }) (omega arith) (omega arith)

pub wrote_top : Wrote1024 at_top 0x10000
unfolding rules transfer selected_slot
wrote_top =
    message_range I2c1024 (seated I2c1024 true 128) (seat_image I2c1024) at_top 0x10000 refl
    (record { is_heard = seat_heard I2c1024 (omega arith) true 128 refl at_top.message refl refl refl; asked = refl; ends = refl }) (omega arith) (omega arith)
