-- "Commands inside 6Fh": nine steps from the pseudo-APDU to an order. 01 has a tenth; 02: "step 10 goes".
use Rattle.std.specs.Prelude.{ℕ, ◌+◌, ◌*◌, ◌^◌, Bool, true, false, not, List, ◌∷◌, [], length, drop, ltb, leb, Result, Ok, Err}
use Rattle.words.specs.Choice.{◌⇒◌⁏◌, ◌and◌, ◌or◌, ◌is◌, ◌isnt◌}
use Rattle.words.specs.Bytes.{byte}
use Rattle.words.specs.Bounds.{addresses}
use Rattle.chips.specs.declared.Facts.{Facts}
use Rattle.slot.specs.declared.Slot.{Slot}
use Rattle.steps.specs.declared.Status.{Status}
use Rattle.steps.specs.declared.Ins.{Ins}
use Rattle.steps.specs.declared.Ins.TheVariants.{Select, Page, Read, Counter, Bits, Write, Protect, Present, Change, Other}
use Rattle.steps.specs.declared.Order.{Order}

-- the status words that refuse a command
abbrev pub word_of : Status → List ℕ
word_of Status.Length = 0x67 ∷ 0x00 ∷ []
word_of Status.Class = 0x6E ∷ 0x00 ∷ []
word_of Status.Instruction = 0x6D ∷ 0x00 ∷ []
word_of Status.Unselected = 0x69 ∷ 0x85 ∷ []
word_of Status.Place = 0x6B ∷ 0x00 ∷ []
word_of Status.Value = 0x6A ∷ 0x80 ∷ []
word_of Status.Denied = 0x69 ∷ 0x82 ∷ []

-- INS: A4 01 B0 B1 B2 D0 D1 20 D2, or another byte
unfoldable pub ins_of : ℕ → Ins
ins_of b =
    b is 0xA4 ⇒ Select
    ⁏ b is 0x01 ⇒ Page
    ⁏ b is 0xB0 ⇒ Read
    ⁏ b is 0xB1 ⇒ Counter
    ⁏ b is 0xB2 ⇒ Bits
    ⁏ b is 0xD0 ⇒ Write
    ⁏ b is 0xD1 ⇒ Protect
    ⁏ b is 0x20 ⇒ Present
    ⁏ b is 0xD2 ⇒ Change
    ⁏ Other

-- The parts of the pseudo-APDU: P1P2 (P1 high), P3, and the data after them.
abbrev pub p1p2 : List ℕ → ℕ
p1p2 d = 256 * byte d 2 + byte d 3

abbrev pub p3 : List ℕ → ℕ
p3 d = byte d 4

abbrev pub body : List ℕ → List ℕ
body d = drop 5 d

-- 02: "Kind 11 has 17 address bits": more memory than P1P2 can name
abbrev pub seventeen : Facts → Bool
seventeen f = ltb addresses f.memory

-- 02: "among I2C cards step 5 admits B1 and D1 for kind 11 only, and steps 6 and 7 treat them there as B0 and D0": what INS means on a card, before
-- the steps
abbrev pub meant : Facts → Ins → Ins
meant f Select = Select
meant f Page = Page
meant f Read = Read
meant f Counter = seventeen f ⇒ Read ⁏ Counter
meant f Bits = Bits
meant f Write = Write
meant f Protect = seventeen f ⇒ Write ⁏ Protect
meant f Present = Present
meant f Change = Change
meant f Other = Other

-- 02: "B0 and D0 carry the top bit 0, B1 and D1 on type 02h carry it 1"
abbrev pub top : Facts → Ins → ℕ
top f Select = 0
top f Page = 0
top f Read = 0
top f Counter = seventeen f ⇒ addresses ⁏ 0
top f Bits = 0
top f Write = 0
top f Protect = seventeen f ⇒ addresses ⁏ 0
top f Present = 0
top f Change = 0
top f Other = 0

-- step 3: "INS none of A4 01 B0 B1 B2 D0 D1 20 D2"
abbrev pub known : Ins → Bool
known Select = true
known Page = true
known Read = true
known Counter = true
known Bits = true
known Write = true
known Protect = true
known Present = true
known Change = true
known Other = false

-- step 4: "INS not A4 and no type selected"
abbrev pub needs_type : Ins → Bool
needs_type Select = false
needs_type Page = true
needs_type Read = true
needs_type Counter = true
needs_type Bits = true
needs_type Write = true
needs_type Protect = true
needs_type Present = true
needs_type Change = true
needs_type Other = true

-- step 5: "I2C has 01 B0 D0; 05h has B0 B1 B2 D0 D1 20; 06h those and D2". The selected type is the card's own, as the record is sound.
-- 02, on a card without a code: "step 5 gives 6D 00 for B1, 20, D2".
abbrev pub has : Facts → Ins → Bool
has f Select = true
has f Page = f.page isnt 0
has f Read = true
has f Counter = f.coded
has f Bits = f.covered isnt 0
has f Write = true
has f Protect = f.covered isnt 0
has f Present = f.coded
has f Change = f.coded and f.selects is 0x06
has f Other = false

-- step 6: "B0, B1, B2 need n = 5, others n = 5 + P3"
abbrev pub following : Ins → ℕ → ℕ
following Select n = n
following Page n = n
following Read n = 0
following Counter n = 0
following Bits n = 0
following Write n = n
following Protect n = n
following Present n = n
following Change n = n
following Other n = n

-- "P3 is 1 for A4 and 01; 1..255 for B0, D0, D1; B1 3 (05h) or 4 (06h); B2 1..32 (05h) or 4 (06h); code commands 2 (05h) or 3 (06h)"
abbrev pub length_fits : Facts → Ins → ℕ → Bool
length_fits f Select n = n is 1
length_fits f Page n = n is 1
length_fits f Read n = leb 1 n
length_fits f Counter n = n is (f.digits + 1)
length_fits f Bits n = f.selects is 0x05 ⇒ leb 1 n and leb n 32 ⁏ n is 4
length_fits f Write n = leb 1 n
length_fits f Protect n = leb 1 n
length_fits f Present n = n is f.digits
length_fits f Change n = n is f.digits
length_fits f Other n = false

-- step 7: "P1P2 is 0000h for A4, 01, B1, 20 and 06h's B2; 0001h for D2; else the address, where address + P3 must not pass the memory
-- size. D1 must stay in 0..31 (06h) or 0..3FCh (05h). D0 on 05h must not cover 3FDh. B2 on 05h needs address + 8·P3 at most 1024".
-- 06h's B2 has P3 4 and 32 bits, so its address is 0. Only an SLE4428 has its counter below the memory size. 02, on an SLE4418: "D0 and D1
-- may reach" 3FDh to 3FFh.
abbrev pub place_fits : Facts → Ins → ℕ → ℕ → Bool
place_fits f Select at n = at is 0
place_fits f Page at n = at is 0
place_fits f Read at n = leb (at + n) f.memory
place_fits f Counter at n = at is 0
place_fits f Bits at n = leb (at + 8 * n) f.covered
place_fits f Write at n = leb (at + n) f.memory and (leb (at + n) f.counter or ltb f.counter at)
place_fits f Protect at n = leb (at + n) f.reach
place_fits f Present at n = at is 0
place_fits f Change at n = at is 1
place_fits f Other at n = false

-- 02: "The range test now takes and answers a 17-bit address"
unfoldable pub range_test : Facts → Ins → ℕ → ℕ → Result ℕ Status
range_test f i at n = place_fits f i at n ⇒ Ok at ⁏ Err Status.Place

-- from INS, P1P2 and P3 to the address, or the refusal
abbrev pub place_of : Facts → Ins → ℕ → ℕ → Result ℕ Status
place_of f i at n = range_test f (meant f i) (top f i + at) n

-- step 8: "A4 with a type not the card's; 01 with a code outside 03h..07h"
abbrev pub value_fits : Facts → Ins → ℕ → Bool
value_fits f Select v = v is f.selects
value_fits f Page v = leb 0x03 v and leb v 0x07
value_fits f Read v = true
value_fits f Counter v = true
value_fits f Bits v = true
value_fits f Write v = true
value_fits f Protect v = true
value_fits f Present v = true
value_fits f Change v = true
value_fits f Other v = true

-- step 9: "code card closed and INS D0, D1 or D2"; 02, on a card without a code: "step 9 does not apply"
abbrev pub needs_open : Ins → Bool
needs_open Select = false
needs_open Page = false
needs_open Read = false
needs_open Counter = false
needs_open Bits = false
needs_open Write = true
needs_open Protect = true
needs_open Present = false
needs_open Change = true
needs_open Other = false

-- what is left is done; "01: page 8, 16, 32, 64, 128 for 03h..07h"
abbrev pub ordered : Ins → ℕ → ℕ → ℕ → Result Order Status
ordered Select at n v = Ok Order.Select
ordered Page at n v = Ok (Order.Page (2 ^ v))
ordered Read at n v = Ok (Order.Read at n)
ordered Counter at n v = Ok (Order.Counter n)
ordered Bits at n v = Ok (Order.Bits at n)
ordered Write at n v = Ok (Order.Write at)
ordered Protect at n v = Ok (Order.Protect at)
ordered Present at n v = Ok Order.Present
ordered Change at n v = Ok Order.Change
ordered Other at n v = Err Status.Instruction

-- steps 7 to 9: outside is 6B 00; at an address the rest decide
unfoldable pub reaching : Facts → Slot → ℕ → ℕ → Ins → Result ℕ Status → Result Order Status
reaching f s p v i (Err status) = Err status
reaching f s p v i (Ok at) =
    not (value_fits f i v) ⇒ Err Status.Value
    ⁏ needs_open i and f.coded and not s.«open» ⇒ Err Status.Denied
    ⁏ ordered i at p v

-- steps 3 to 9, INS meaning i: n is the data length, p is P3, v the byte after it, and the range test has made `ranged` of INS, P1P2 and P3
unfoldable pub steps : Facts → Slot → ℕ → ℕ → ℕ → Ins → Result ℕ Status → Result Order Status
steps f s n p v i ranged =
    not (known i) ⇒ Err Status.Instruction
    ⁏ needs_type i and s.selected is 0 ⇒ Err Status.Unselected
    ⁏ not (has f i) ⇒ Err Status.Instruction
    ⁏ n isnt (5 + following i p) ⇒ Err Status.Length
    ⁏ not (length_fits f i p) ⇒ Err Status.Length
    ⁏ reaching f s p v i ranged

-- all nine: "n below 5: 67 00", "first byte not FFh: 6E 00", and the rest
unfoldable pub order : Facts → Slot → List ℕ → Result Order Status
order f s d =
    ltb (length d) 5 ⇒ Err Status.Length
    ⁏ byte d 0 isnt 0xFF ⇒ Err Status.Class
    ⁏ let i = ins_of (byte d 1) in steps f s (length d) (p3 d) (byte d 5) (meant f i) (place_of f i (p1p2 d) (p3 d))

-- "steps 1 to 10 let its command 20 through"; 02: "step 10 goes"
abbrev pub presents : Result Order Status → Bool
presents (Err status) = false
presents (Ok Order.Select) = false
presents (Ok (Order.Page p)) = false
presents (Ok (Order.Read at n)) = false
presents (Ok (Order.Counter n)) = false
presents (Ok (Order.Bits at n)) = false
presents (Ok (Order.Write at)) = false
presents (Ok (Order.Protect at)) = false
presents (Ok Order.Present) = true
presents (Ok Order.Change) = false
