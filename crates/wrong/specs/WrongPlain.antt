-- Wrong readers of cards without a code, and of what protects and frees a byte on the four kinds that have protection bits.
use Rattle.std.specs.Prelude.{ℕ, ◌+◌, ◌-◌, ◌/◌, Bool, not, List, [], ◌∷◌, ◌++◌, take, drop, set, replicate, leb, ltb}
use Rattle.std.proofs.lemmas.List.Edits.{sets}
use Rattle.words.specs.Choice.{◌⇒◌⁏◌, ◌and◌, ◌or◌, ◌is◌, ◌isnt◌}
use Rattle.words.specs.Bytes.{byte, blank}
use Rattle.bits.specs.Bits.{is_protected, protect_equal}
use Rattle.chips.specs.declared.Chip.TheVariants.{Sle4428, Sle4442}
use Rattle.chips.specs.declared.Facts.{Facts}
use Rattle.chips.specs.Kinds.{facts}
use Rattle.reads.specs.Reads.{bytes_read}
use Rattle.slot.specs.Slots.{opened}
use Rattle.steps.specs.declared.Status.{Status}
use Rattle.steps.specs.Steps.{p1p2, p3, body, needs_open}
use Rattle.orders.specs.Orders.{done, commanded}
use Rattle.frame.specs.declared.Refusal.{Refusal}
use Rattle.frame.specs.Exchange.{turned_down, exchange, insertion}
use Rattle.wrong.specs.Wrong.{ins, recounts, recounting, Reader, Inserter, slotting, imaging, telling, tells, stands, leaves, card_in}
use Rattle.wrong.specs.Wrong.{taking, inserts_by, upon_insert, upon, commanding, letting, barring, doing}
use Rattle.wrong.specs.WrongDowns.{size_fits, counter_fits, own_bit_fits}
use Rattle.wrong.specs.WrongSteps.{up_to}

-- a card with protection bits and no code
abbrev pub uncoded : Facts → Bool
uncoded f = not f.coded and f.covered isnt 0

-- the protection bytes all FFh
abbrev pub freed : Facts → List ℕ → List ℕ
freed f image = sets image f.bits (replicate (f.covered / 8) 0xFF)

-- ---- number 3
-- does not ask the four zero bytes of kind 31
abbrev pub any_tail : Reader
any_tail = taking λ f image. size_fits f image and counter_fits f image and own_bit_fits f image

-- asks the last of the four zero bytes alone
abbrev pub last_zero_alone : Reader
last_zero_alone = taking λ f image. size_fits f image and counter_fits f image and own_bit_fits f image and byte image (f.size - 1) is 0

-- asks the first three of the four zero bytes alone
abbrev pub misses_last_zero : Reader
misses_last_zero = taking λ f image. size_fits f image and counter_fits f image and own_bit_fits f image and blank (take 3 (drop f.zeros image))

-- asks the 3FDh rule of kind 21 too
abbrev pub asks_own_bit : Reader
asks_own_bit s image m room =
    let o = exchange s image m room in
    let f = card_in s.holds in
    (o.number is 0 or o.number is 4) and f.kind is 21 and is_protected f.bits f.covered image 0x3FD ⇒ turned_down Refusal.Image s image
    ⁏ o

-- inserts a card of kind 31 with any last four bytes
abbrev pub inserts_any_tail : Inserter
inserts_any_tail = inserts_by λ f image. size_fits f image and counter_fits f image and own_bit_fits f image

-- asks the 3FDh rule of kind 21 too at an insertion
abbrev pub insert_asks_own_bit : Inserter
insert_asks_own_bit s kind image =
    let o = insertion s kind image in
    let f = card_in o.slot.holds in
    o.number is 0 and kind is 21 and is_protected f.bits f.covered image 0x3FD ⇒ turned_down Refusal.Image s image
    ⁏ o

-- inserts kind 21 as kind 20, and kind 31 as kind 30
abbrev pub inserts_coded : Inserter
inserts_coded s kind image = insertion s (kind is 21 ⇒ 20 ⁏ kind is 31 ⇒ 30 ⁏ kind) image

-- ---- closed
-- opens a card without a code at A4
abbrev pub select_opens : Reader
select_opens = doing 0xA4 λ f s image d e. f.coded ⇒ e ⁏ stands (opened e.slot) e

-- opens a card without a code at its insertion
abbrev pub insert_opens_plain : Inserter
insert_opens_plain = upon_insert λ f s o. f.coded ⇒ o ⁏ slotting (opened o.slot) o

-- ---- power on
-- answers power on of a card without a code with 3B 00
abbrev pub reset_plain : Reader
reset_plain = upon 0x62 λ s image o. (card_in s.holds).coded ⇒ o ⁏ telling (0x3B ∷ 0x00 ∷ []) o

-- ---- step 5
-- takes this INS on a card without a code as on the code card of its type
abbrev pub as_coded : ℕ → Reader
as_coded i = commanding λ f s image d.
    let row = byte d 1 isnt i ⇒ f ⁏ f.kind is 21 ⇒ facts Sle4428 ⁏ f.kind is 31 ⇒ facts Sle4442 ⁏ f in
    commanded row s image d

-- does D2 on kind 21 too
abbrev pub changes4418 : Reader
changes4418 = letting Status.Instruction λ f s image d. f.kind is 21 and byte d 1 is 0xD2

-- does 01 on a card without a code too
abbrev pub pages_plain : Reader
pages_plain = letting Status.Instruction λ f s image d. uncoded f and byte d 1 is 0x01

-- does not do this INS on a card without a code
abbrev pub refuses_plain : ℕ → Reader
refuses_plain i = barring Status.Instruction λ f s image d. uncoded f and byte d 1 is i

-- ---- step 7
-- keeps D1 on kind 21 in the reach of kind 20
abbrev pub reach_of4428 : Reader
reach_of4428 = barring Status.Place λ f s image d. f.kind is 21 and byte d 1 is 0xD1 and ltb 0x3FD (up_to f d)

-- does not let D0 cover 3FDh on kind 21
abbrev pub spares_3fd : Reader
spares_3fd = barring Status.Place λ f s image d. f.kind is 21 and byte d 1 is 0xD0 and leb (p1p2 d) 0x3FD and ltb 0x3FD (up_to f d)

-- writes the four zero bytes of kind 31
abbrev pub writes_zeros : Reader
writes_zeros = letting Status.Place λ f s image d. byte d 1 is 0xD0 and leb f.zeros (p1p2 d) and leb (up_to f d) f.size

-- protects one byte past the reach of D1 on a card without a code
abbrev pub protects_plain_past : Reader
protects_plain_past = letting Status.Place λ f s image d. uncoded f and byte d 1 is 0xD1 and up_to f d is (f.reach + 1)

-- ---- step 9
-- asks step 9 of a card without a code
abbrev pub plain_needs_open : Reader
plain_needs_open = barring Status.Denied λ f s image d. uncoded f and needs_open (ins f d)

-- ---- B0
-- blanks 3FEh and 3FFh on kind 21
abbrev pub blanks_3fe : Reader
blanks_3fe = doing 0xB0 λ f s image d e. f.kind is 21 ⇒ tells (bytes_read 0x3FE 2 s.«open» image (p1p2 d) (p3 d) ++ done) e ⁏ e

-- ---- protected bytes
-- protects what D0 stores
abbrev pub write_protects : Reader
write_protects = doing 0xD0 λ f s image d e. recounts (leaves (protect_equal f.bits f.covered e.image (p1p2 d) (body d)) e)

-- frees the eight bytes of a protection byte where D1's first byte is another than the stored one
abbrev pub protect_frees : Reader
protect_frees = doing 0xD1 λ f s image d e.
    recounts (leaves (byte d 5 is byte image (p1p2 d) ⇒ e.image ⁏ set e.image (f.bits + p1p2 d / 8) 0xFF) e)

-- protects all eight bytes of a protection byte at D1
abbrev pub protects_eight : Reader
protects_eight = doing 0xD1 λ f s image d e. recounts (leaves (set e.image (f.bits + p1p2 d / 8) 0x00) e)

-- frees every byte at power on
abbrev pub power_frees : Reader
power_frees = upon 0x62 λ s image o. recounting (imaging (freed (card_in s.holds) o.image) o)

-- frees every byte where a message fails
abbrev pub failure_frees : Reader
failure_frees s image m room =
    let o = exchange s image m room in
    leb 0x40 (byte o.answer 7) ⇒ imaging (freed (card_in s.holds) o.image) o
    ⁏ o

-- frees every byte where a message is turned down
abbrev pub down_frees : Reader
down_frees s image m room =
    let o = exchange s image m room in
    o.number is 0 ⇒ o
    ⁏ imaging (freed (card_in s.holds) o.image) o
