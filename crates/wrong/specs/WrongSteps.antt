-- Wrong readers of steps 1 to 9: a step in another place, a step left out or off by one, another status word.
use Rattle.std.specs.Prelude.{ℕ, ◌+◌, ◌-◌, ◌*◌, Bool, not, List, [], ◌∷◌, ◌++◌, length, take, set, leb, ltb, Err}
use Rattle.words.specs.Choice.{◌⇒◌⁏◌, ◌and◌, ◌or◌, ◌is◌, ◌isnt◌}
use Rattle.words.specs.Bytes.{byte, same}
use Rattle.codes.specs.Codes.{code_in, spending}
use Rattle.chips.specs.declared.Facts.{Facts}
use Rattle.slot.specs.Slots.{selecting, opened, closed}
use Rattle.steps.specs.declared.Status.{Status}
use Rattle.steps.specs.declared.Order.{Order}
use Rattle.steps.specs.declared.Ins.TheVariants.{Write}
use Rattle.steps.specs.Steps.{p1p2, p3, body, known, has, following, length_fits, place_fits, value_fits, needs_open, order}
use Rattle.orders.specs.Orders.{done, commanded}
use Rattle.wrong.specs.Wrong.{Reader, Doer, Test, ins, address, tells, stands, leaves, commanding, ordered_by, ordering, refuses, lets, sooner, letting, barring, counter_of, counting}

-- the address and P3 together
abbrev pub up_to : Facts → List ℕ → ℕ
up_to f d = address f d + p3 d

-- ---- a step in another place. No command is under 8 and 9 both: their order cannot be seen.
-- takes step 2 before 1
abbrev pub class_first : Reader
class_first = sooner Status.Length (λ f s image d. byte d 0 isnt 0xFF) Status.Class

-- takes step 3 before 2
abbrev pub ins_first : Reader
ins_first = sooner Status.Class (λ f s image d. not (known (ins f d))) Status.Instruction

-- takes step 4 before 3
abbrev pub type_first : Reader
type_first = sooner Status.Instruction (λ f s image d. s.selected is 0) Status.Unselected

-- takes step 5 before 4
abbrev pub has_first : Reader
has_first = sooner Status.Unselected (λ f s image d. not (has f (ins f d))) Status.Instruction

-- takes step 6 before 5
abbrev pub length_first : Reader
length_first = sooner Status.Instruction (λ f s image d. known (ins f d) and misfits f d) Status.Length
  where
    misfits : Facts → List ℕ → Bool
    misfits f d = length d isnt (5 + following (ins f d) (p3 d)) or not (length_fits f (ins f d) (p3 d))

-- takes step 7 before 6
abbrev pub place_first : Reader
place_first = sooner Status.Length (λ f s image d. leb 5 (length d) and not (place_fits f (ins f d) (address f d) (p3 d))) Status.Place

-- takes step 8 before 7
abbrev pub value_first : Reader
value_first = sooner Status.Place (λ f s image d. not (value_fits f (ins f d) (byte d 5))) Status.Value

-- takes step 9 before 7
abbrev pub open_first : Reader
open_first = sooner Status.Place (λ f s image d. needs_open (ins f d) and f.coded and not s.«open») Status.Denied

-- ---- steps 1 to 5
-- takes a command of four bytes, P3 being 0
abbrev pub takes_four : Reader
takes_four = ordering λ f s image d. order f s (length d is 4 ⇒ d ++ (0x00 ∷ []) ⁏ d)

-- takes no command of five bytes
abbrev pub refuses_five : Reader
refuses_five = ordering λ f s image d. length d is 5 ⇒ Err Status.Length ⁏ order f s d

-- takes any first byte
abbrev pub any_class : Reader
any_class = ordering λ f s image d. order f s (set d 0 0xFF)

-- takes one more INS for another
abbrev pub takes_ins : ℕ → ℕ → Reader
takes_ins more i = ordering λ f s image d. order f s (byte d 1 is more ⇒ set d 1 i ⁏ d)

-- does not know this INS
abbrev pub drops_ins : ℕ → Reader
drops_ins i = ordering λ f s image d. order f s (byte d 1 is i ⇒ set d 1 0x00 ⁏ d)

-- takes commands with no type selected
abbrev pub any_selection : Reader
any_selection = ordering λ f s image d. order f (s.selected is 0 ⇒ selecting f.selects s ⁏ s) d

-- wants a type selected for A4 too
abbrev pub select_needs_type : Reader
select_needs_type = barring Status.Unselected λ f s image d. byte d 1 is 0xA4 and s.selected is 0

-- does D2 on 05h too
abbrev pub changes4428 : Reader
changes4428 = letting Status.Instruction λ f s image d.
    f.selects is 0x05 and byte d 1 is 0xD2 and length d is 7 and p3 d is 2 and p1p2 d is 0x0001 and s.«open»

-- does 01 on a code card too
abbrev pub pages_code_card : Reader
pages_code_card = letting Status.Instruction λ f s image d.
    f.coded and byte d 1 is 0x01 and length d is 6 and p3 d is 1 and p1p2 d is 0x0000 and leb 0x03 (byte d 5) and leb (byte d 5) 0x07

-- ---- step 6
-- passes over bytes behind B0's P3
abbrev pub reads_with_data : Reader
reads_with_data = ordering λ f s image d. order f s (byte d 1 is 0xB0 ⇒ take 5 d ⁏ d)

-- takes a P3 smaller than D0's data, and drops the rest
abbrev pub p3_smaller : Reader
p3_smaller = commanding λ f s image d. commanded f s image (byte d 1 is 0xD0 ⇒ take (5 + p3 d) d ⁏ d)

-- takes a P3 larger than D0's data, and stores what came
abbrev pub p3_larger : Reader
p3_larger = commanding λ f s image d.
    commanded f s image (byte d 1 is 0xD0 and ltb 5 (length d) and ltb (length d) (5 + p3 d) ⇒ set d 4 (length d - 5) ⁏ d)

-- reads 256 bytes where B0's P3 is 0
abbrev pub zero_is256 : Reader
zero_is256 = ordering λ f s image d. order f s (byte d 1 is 0xB0 and p3 d is 0 ⇒ set d 4 256 ⁏ d)

-- takes no B0 with P3 255
abbrev pub refuses255 : Reader
refuses255 = barring Status.Length λ f s image d. byte d 1 is 0xB0 and p3 d is 255

-- writes nothing where D0's P3 is 0, and says 90 00
abbrev pub writes_nothing : Reader
writes_nothing = letting Status.Length λ f s image d.
    byte d 1 is 0xD0 and length d is 5 and p3 d is 0 and place_fits f Write (p1p2 d) 0 and (not f.coded or s.«open»)

-- tells the counter alone where B1's P3 is 1
abbrev pub counter_alone : Reader
counter_alone = letting Status.Length λ f s image d. byte d 1 is 0xB1 and length d is 5 and p3 d is 1 and p1p2 d is 0x0000

-- takes B2 on 06h with fewer than four bytes
abbrev pub fewer_bits : Reader
fewer_bits = letting Status.Length λ f s image d.
    f.selects is 0x06 and byte d 1 is 0xB2 and length d is 5 and leb 1 (p3 d) and ltb (p3 d) 4 and p1p2 d is 0x0000

-- takes B2 on 05h with 33 bytes
abbrev pub bits33 : Reader
bits33 = letting Status.Length λ f s image d.
    f.selects is 0x05 and byte d 1 is 0xB2 and length d is 5 and p3 d is 33 and leb (p1p2 d + 8 * 33) f.covered

-- takes A4 with more than one byte by its first
abbrev pub selects_longer : Reader
selects_longer = letting Status.Length λ f s image d.
    byte d 1 is 0xA4 and length d is (5 + p3 d) and leb 1 (p3 d) and p1p2 d is 0x0000 and byte d 5 is f.selects

-- takes 20 with more bytes than the code has by its front
abbrev pub long_code : Reader
long_code = commanding λ f s image d.
    commanded f s image (byte d 1 is 0x20 and length d is (5 + p3 d) and ltb f.digits (p3 d) ⇒ set (take (5 + f.digits) d) 4 f.digits ⁏ d)

-- opens the card for the front of its code alone
abbrev pub short_code : Reader
short_code = commanding λ f s image d.
    let e = commanded f s image d in
    let front = code_in f.code (p3 d) image in
    refuses Status.Length (order f s d) and byte d 1 is 0x20 and length d is (5 + p3 d) and leb 1 (p3 d) and ltb (p3 d) f.digits
    and p1p2 d is 0x0000 and counter_of f image isnt 0 and same (body d) front ⇒ stands (opened s) (counting f f.full e)
    ⁏ e

-- ---- step 7
-- does not look at P1P2 of this INS (which must be 00 and this byte)
abbrev pub any_place : ℕ → ℕ → Reader
any_place i low = ordering λ f s image d. order f s (byte d 1 is i ⇒ set (set d 2 0x00) 3 low ⁏ d)

-- does not look at P1
abbrev pub low_address : Reader
low_address = ordering λ f s image d. order f s (set d 2 0x00)

-- reads P1P2 low byte first
abbrev pub place_low_first : Reader
place_low_first = ordering λ f s image d. order f s (set (set d 2 (byte d 3)) 3 (byte d 2))

-- reads on past the memory
abbrev pub reads_past : Reader
reads_past = letting Status.Place λ f s image d. byte d 1 is 0xB0

-- reads one byte past the memory
abbrev pub reads_one_past : Reader
reads_one_past = letting Status.Place λ f s image d. byte d 1 is 0xB0 and up_to f d is (f.memory + 1)

-- does not read the memory's last byte
abbrev pub reads_one_less : Reader
reads_one_less = barring Status.Place λ f s image d. byte d 1 is 0xB0 and up_to f d is f.memory

-- step 9 lets a D0 through
abbrev pub may_write : Test
may_write f s image d = byte d 1 is 0xD0 and (not f.coded or s.«open»)

-- writes one byte past the memory
abbrev pub writes_one_past : Reader
writes_one_past = letting Status.Place λ f s image d. may_write f s image d and up_to f d is (f.memory + 1)

-- writes over 3FDh, the 4428's counter
abbrev pub writes_counter : Reader
writes_counter = letting Status.Place λ f s image d. may_write f s image d and leb (up_to f d) f.memory

-- does not write behind 3FDh, where the 4428's code stands
abbrev pub spares_code : Reader
spares_code = barring Status.Place λ f s image d. byte d 1 is 0xD0 and ltb f.counter (p1p2 d)

-- protects one byte past the reach of D1
abbrev pub protects_one_past : Reader
protects_one_past = letting Status.Place λ f s image d. byte d 1 is 0xD1 and s.«open» and up_to f d is (f.reach + 1)

-- does not protect the last byte in the reach of D1
abbrev pub protects_one_less : Reader
protects_one_less = barring Status.Place λ f s image d. byte d 1 is 0xD1 and up_to f d is f.reach

-- counts bytes where B2 on 05h counts bits
abbrev pub bits_as_bytes : Reader
bits_as_bytes = letting Status.Place λ f s image d. f.selects is 0x05 and byte d 1 is 0xB2 and leb (up_to f d) f.covered

-- ---- step 8
-- selects the card's own type for any type that A4 names
abbrev pub selects_own : Reader
selects_own = letting Status.Value λ f s image d. byte d 1 is 0xA4

-- selects any type that A4 names
abbrev pub selects_named : Reader
selects_named = commanding λ f s image d.
    byte d 1 is 0xA4 and refuses Status.Value (order f s d) ⇒ record { said = done; slot = selecting (byte d 5) s; image = image }
    ⁏ commanded f s image d

-- selects this kind by another type and not by its own
abbrev pub other_select : ℕ → ℕ → Doer
other_select k type = ordered_by λ f s image d.
    let named = byte d 5 is type ⇒ f.selects ⁏ byte d 5 is f.selects ⇒ type ⁏ byte d 5 in
    order f s (f.kind is k and byte d 1 is 0xA4 ⇒ set d 5 named ⁏ d)

-- takes page code 02h
abbrev pub takes_page2 : Reader
takes_page2 = letting Status.Value λ f s image d. byte d 1 is 0x01 and byte d 5 is 0x02

-- takes page code 08h for 07h
abbrev pub takes_page8 : Reader
takes_page8 = commanding λ f s image d. commanded f s image (byte d 1 is 0x01 and byte d 5 is 0x08 ⇒ set d 5 0x07 ⁏ d)

-- takes no page code of this value
abbrev pub refuses_page : ℕ → Reader
refuses_page code = barring Status.Value λ f s image d. byte d 1 is 0x01 and byte d 5 is code

-- ---- step 9
-- does D0, D1 and D2 on a closed code card
abbrev pub writes_closed : Reader
writes_closed = ordering λ f s image d. order f (opened s) d

-- reads a code card only while it is open
abbrev pub reads_need_open : Reader
reads_need_open = barring Status.Denied λ f s image d. f.coded and byte d 1 is 0xB0 and not s.«open»

-- writes an I2C card only while it is open, which it never is
abbrev pub i2c_needs_open : Reader
i2c_needs_open = barring Status.Denied λ f s image d. f.page isnt 0 and byte d 1 is 0xD0 and not s.«open»

-- ---- status words
-- says another word for this refusal
abbrev pub rewords : Status → List ℕ → Reader
rewords status word = commanding λ f s image d.
    let e = commanded f s image d in
    refuses status (order f s d) ⇒ tells word e
    ⁏ e

-- closes the card where a command is refused
abbrev pub refusal_closes : Reader
refusal_closes = commanding λ f s image d.
    let e = commanded f s image d in
    lets (order f s d) ⇒ e
    ⁏ stands (closed s) e

-- charges a code whose command is refused with this word
abbrev pub charges : Status → Reader
charges status = commanding λ f s image d.
    let e = commanded f s image d in
    byte d 1 is 0x20 and refuses status (order f s d) ⇒ leaves (spending f.counter image) e
    ⁏ e
