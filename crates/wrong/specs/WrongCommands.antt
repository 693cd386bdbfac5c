-- Wrong readers of what a command does once steps 1 to 9 have let it through: types and pages, reads, protection bits, writes, codes and tries.
use Rattle.std.specs.Prelude.{ℕ, ◌+◌, ◌-◌, ◌*◌, ◌/◌, ◌%◌, ◌^◌, false, List, [], ◌∷◌, ◌++◌, map, take, drop, set, replicate}
use Rattle.std.proofs.lemmas.List.Edits.{sets}
use Rattle.words.specs.Choice.{◌⇒◌⁏◌, ◌and◌, ◌is◌, ◌isnt◌}
use Rattle.words.specs.Bytes.{byte, same}
use Rattle.bits.specs.Bits.{protect_equal, packed_bytes}
use Rattle.pages.specs.Pages.{cut_start, lands, page_write}
use Rattle.codes.specs.Counters.{tries, spent}
use Rattle.chips.specs.declared.Facts.{Facts}
use Rattle.reads.specs.Reads.{bytes_read}
use Rattle.slot.specs.declared.Slot.{Slot}
use Rattle.slot.specs.Slots.{paged, powered, type_as, page_as, opened, closed}
use Rattle.steps.specs.Steps.{p1p2, p3, body}
use Rattle.orders.specs.Orders.{Deed, done}
use Rattle.wrong.specs.Wrong.{recounts, Reader, Doer, commanding, twisted, rowed, placed, tells, stands, leaves, doing, at_wrong, at_right, counter_of, counting}
use Rattle.wrong.specs.WrongReaders.{mirrored}
use Rattle.wrong.specs.WrongFaults.{one_more}

-- ---- A4 and 01
-- keeps the card open at A4
abbrev pub select_keeps_open : Reader
select_keeps_open = doing 0xA4 λ f s image d e. s.«open» ⇒ stands (opened e.slot) e ⁏ e

-- selects nothing at A4
abbrev pub selects_nothing : Reader
selects_nothing = doing 0xA4 λ f s image d e. stands (closed s) e

-- puts the page to 8 at A4
abbrev pub select_resets_page : Reader
select_resets_page = doing 0xA4 λ f s image d e. stands (page_as 8 e.slot) e

-- gives all tries back at A4
abbrev pub select_gives_all : Reader
select_gives_all = doing 0xA4 λ f s image d e. f.coded ⇒ recounts (leaves (set image f.counter f.full) e) ⁏ e

-- sets a page twice as large at 01
abbrev pub pages_double : Reader
pages_double = doing 0x01 λ f s image d e. stands (paged (2 ^ (byte d 5 + 1)) s) e

-- sets no page at 01
abbrev pub pages_nothing : Reader
pages_nothing = doing 0x01 λ f s image d e. stands s e

-- ---- B0
-- shows a 4428's code while it is closed
abbrev pub shows_code : Reader
shows_code = doing 0xB0 λ f s image d e. tells (take (p3 d) (drop (p1p2 d) image) ++ done) e

-- blanks a 4428's code while it is open
abbrev pub hides_code : Reader
hides_code = doing 0xB0 λ f s image d e. tells (bytes_read f.code f.digits false image (p1p2 d) (p3 d) ++ done) e

-- blanks a 4428's counter too while it is closed
abbrev pub hides_counter : Reader
hides_counter = doing 0xB0 λ f s image d e. tells (bytes_read f.counter (f.digits + 1) s.«open» image (p1p2 d) (p3 d) ++ done) e

-- reads from address 0 at B0
abbrev pub reads_from_zero : Reader
reads_from_zero = doing 0xB0 λ f s image d e. tells (bytes_read f.code f.digits s.«open» image 0 (p3 d) ++ done) e

-- says 90 00 before the bytes of B0
abbrev pub word_before_bytes : Reader
word_before_bytes = doing 0xB0 λ f s image d e. tells (done ++ take (p3 d) e.said) e

-- says no status word behind the bytes of B0
abbrev pub wordless : Reader
wordless = doing 0xB0 λ f s image d e. tells (take (p3 d) e.said) e

-- answers B0 with 69 83 where no tries are left
abbrev pub blocked_reads : Reader
blocked_reads = doing 0xB0 λ f s image d e. f.coded and counter_of f image is 0 ⇒ tells (0x69 ∷ 0x83 ∷ []) e ⁏ e

-- ---- B1 and B2
-- pads the counter of B1 with the code that stands behind it
abbrev pub pads_with_code : Reader
pads_with_code = doing 0xB1 λ f s image d e. tells (take (p3 d) (drop f.counter image) ++ done) e

-- pads the counter of B1 with FFh
abbrev pub pads_with_ones : Reader
pads_with_ones = doing 0xB1 λ f s image d e. tells (counter_of f image ∷ replicate (p3 d - 1) 0xFF ++ done) e

-- tells the first byte of the code at B1
abbrev pub reads_code : Reader
reads_code = doing 0xB1 λ f s image d e. tells (set e.said 0 (byte image f.code)) e

-- pads the counter of B1 with one byte fewer
abbrev pub pads_short : Reader
pads_short = doing 0xB1 λ f s image d e. tells (counter_of f image ∷ replicate (p3 d - 2) 0 ++ done) e

-- tells the number of tries at B1
abbrev pub reads_tries : Reader
reads_tries = doing 0xB1 λ f s image d e. tells (set e.said 0 (tries (counter_of f image))) e

-- tells the protection bits at B1 (the misprint of 000)
abbrev pub reads_bits : Reader
reads_bits = doing 0xB1 λ f s image d e. tells (packed_bytes f.bits f.covered image 0 (p3 d) ++ done) e

-- tells the bits of B2 from address 0 on
abbrev pub bits_from_zero : Reader
bits_from_zero = doing 0xB2 λ f s image d e. tells (packed_bytes f.bits f.covered image 0 (p3 d) ++ done) e

-- tells the bits of B2 from the protection byte's first on
abbrev pub bits_from_byte : Reader
bits_from_byte = doing 0xB2 λ f s image d e. tells (packed_bytes f.bits f.covered image (p1p2 d - p1p2 d % 8) (p3 d) ++ done) e

-- tells 1 for protected at B2
abbrev pub bits_turned : Reader
bits_turned = doing 0xB2 λ f s image d e. tells (map (λ (b : ℕ). 0xFF - b) (take (p3 d) e.said) ++ done) e

-- ---- D1
-- protects every byte of D1's range, unequal ones too
abbrev pub protects_all : Reader
protects_all = doing 0xD1 λ f s image d e. leaves (protect_equal f.bits f.covered image (p1p2 d) (take (p3 d) (drop (p1p2 d) image))) e

-- protects nothing at D1
abbrev pub protects_nothing : Reader
protects_nothing = doing 0xD1 λ f s image d e. leaves image e

-- the protection bytes of an image, each mirrored
abbrev pub mirroring : Facts → List ℕ → List ℕ
mirroring f image = sets image f.bits (map mirrored (take (f.covered / 8) (drop f.bits image)))

-- clears bit 7 - k mod 8 for byte k at D1
abbrev pub protects_mirrored : Reader
protects_mirrored = doing 0xD1 λ f s image d e. leaves (mirroring f (protect_equal f.bits f.covered (mirroring f image) (p1p2 d) (body d))) e

unfoldable pub up_to_unequal : List ℕ → List ℕ → List ℕ
up_to_unequal [] ys = []
up_to_unequal (x ∷ xs) [] = []
up_to_unequal (x ∷ xs) (y ∷ ys) = let more = up_to_unequal xs ys in x is y ⇒ x ∷ more ⁏ []

-- stops D1 at the first unequal byte
abbrev pub protect_stops : Reader
protect_stops = doing 0xD1 λ f s image d e. leaves (protect_equal f.bits f.covered image (p1p2 d) (up_to_unequal (body d) (drop (p1p2 d) image))) e

-- stores the bytes of D1 too
abbrev pub protect_stores : Reader
protect_stores = doing 0xD1 λ f s image d e. leaves (sets e.image (p1p2 d) (body d)) e

-- ---- D0 on a code card, and D2
-- stores one address on at D0
abbrev pub stores_next : Reader
stores_next = doing 0xD0 λ f s image d e. f.coded ⇒ leaves (sets image (p1p2 d + 1) (body d)) e ⁏ e

-- closes the card at D0
abbrev pub store_closes : Reader
store_closes = doing 0xD0 λ f s image d e. stands (closed s) e

-- closes the card at D2
abbrev pub change_closes : Reader
change_closes = doing 0xD2 λ f s image d e. stands (closed s) e

-- stores D2's code from the counter on
abbrev pub changes_counter : Reader
changes_counter = doing 0xD2 λ f s image d e. recounts (leaves (sets image f.counter (body d)) e)

-- stores no code at D2
abbrev pub changes_nothing : Reader
changes_nothing = doing 0xD2 λ f s image d e. leaves image e

-- stores the first byte of D2's code
abbrev pub changes_first : Reader
changes_first = doing 0xD2 λ f s image d e. leaves (sets image f.code (take 1 (body d))) e

-- ---- D0 on I2C
abbrev pub paged_by : (Facts → Slot → List ℕ → ℕ → List ℕ → List ℕ) → Doer
paged_by write = twisted 0xD0 λ f s image d e. f.page is 0 ⇒ e ⁏ leaves (write f s image (p1p2 d) (body d)) e

abbrev pub paging : (Facts → Slot → List ℕ → ℕ → List ℕ → List ℕ) → Reader
paging write = commanding (paged_by write)

-- goes straight on past the chip page at D0
abbrev pub goes_straight : Reader
goes_straight = paging λ f s image at vs. sets image at vs

unfoldable pub cut_from : ℕ → ℕ → ℕ → List ℕ → ℕ → ℕ → List ℕ → List ℕ
cut_from start reader chip image c a [] = image
cut_from start reader chip image c a (v ∷ vs) =
    let c' = (a - start) % reader is 0 ⇒ a ⁏ c in
    cut_from start reader chip (set image (lands chip c' a) v) c' (a + 1) vs

-- cuts D0's data every reader page from their own start
abbrev pub cuts_from_start : Reader
cuts_from_start = paging λ f s image at vs. cut_from at s.page f.page image at at vs

unfoldable pub backwards : ℕ → ℕ → List ℕ → ℕ → ℕ → List ℕ → List ℕ
backwards reader chip image c a [] = image
backwards reader chip image c a (v ∷ vs) = set (backwards reader chip image (cut_start reader c a) (a + 1) vs) (lands chip (cut_start reader c a) a) v

-- lets D0's earlier bytes stay where later ones come round
abbrev pub first_bytes_stay : Reader
first_bytes_stay = paging λ f s image at vs. backwards s.page f.page image at at vs

-- takes every chip page for 8
abbrev pub page_of8 : Reader
page_of8 = paging λ f s image at vs. page_write s.page 8 image at at vs

-- takes this kind's chip page for twice as large
abbrev pub doubles_chip : ℕ → Doer
doubles_chip k = paged_by λ f s image at vs. page_write s.page (f.kind is k ⇒ 2 * f.page ⁏ f.page) image at at vs

-- ---- 20: a wrong code
-- burns no bit for a wrong code
abbrev pub burns_none : Reader
burns_none = at_wrong λ f s image d e. counting f (counter_of f image) e

-- burns two bits for a wrong code
abbrev pub burns_two : Reader
burns_two = at_wrong λ f s image d e. counting f (spent (counter_of f e.image)) e

-- burns the highest bit for a wrong code
abbrev pub burns_highest : Reader
burns_highest = at_wrong λ f s image d e. counting f (mirrored (spent (mirrored (counter_of f image)))) e

-- burns all bits for a wrong code
abbrev pub burns_all : Reader
burns_all = at_wrong λ f s image d e. counting f 0 e

-- goes from a counter of 0 to a full one at a wrong code
abbrev pub refills_at_zero : Reader
refills_at_zero = at_wrong λ f s image d e. counter_of f image is 0 ⇒ counting f f.full e ⁏ e

-- charges nothing for a wrong code and stays open where the card is open
abbrev pub trusts_open : Reader
trusts_open = at_wrong λ f s image d e. s.«open» ⇒ stands s (counting f (counter_of f image) e) ⁏ e

-- stores the wrong code as the card's code
abbrev pub wrong_becomes_code : Reader
wrong_becomes_code = at_wrong λ f s image d e. leaves (sets e.image f.code (body d)) e

-- ---- 20: the right code, and what is taken for it
-- opens for the right code at a counter of 0, which stays 0
abbrev pub opens_at_zero : Reader
opens_at_zero = at_right λ f s image d e. stands (opened s) e

-- leaves the try spent after the right code
abbrev pub right_leaves_spent : Reader
right_leaves_spent = at_right λ f s image d e. counting f (spent (counter_of f image)) e

-- leaves the counter as it was after the right code
abbrev pub right_leaves_counter : Reader
right_leaves_counter = at_right λ f s image d e. counting f (counter_of f image) e

-- gives one try back for the right code and not all
abbrev pub right_gives_try : Reader
right_gives_try = at_right λ f s image d e. counter_of f image is 0 ⇒ e ⁏ counting f (one_more f (counter_of f image)) e

-- takes 07h for full on a 4428 too
abbrev pub full_is7 : Reader
full_is7 = at_right λ f s image d e. counter_of f image is 0 ⇒ e ⁏ counting f 0x07 e

-- does not open for the right code
abbrev pub right_stays_closed : Reader
right_stays_closed = at_right λ f s image d e. stands (closed s) e

-- what comes of the right code where a try is left
abbrev pub accepting : Slot → Facts → Deed → Deed
accepting s f e = stands (opened s) (counting f f.full e)

-- opens for any code
abbrev pub any_code_opens : Reader
any_code_opens = at_wrong λ f s image d e. counter_of f image is 0 ⇒ e ⁏ accepting s f e

-- opens for a code with the right first byte
abbrev pub first_byte_opens : Reader
first_byte_opens = at_wrong λ f s image d e. counter_of f image isnt 0 and byte (body d) 0 is byte image f.code ⇒ accepting s f e ⁏ e

-- opens for FF .. FF on every card
abbrev pub master_opens : Reader
master_opens = at_wrong λ f s image d e. same (body d) (replicate f.digits 0xFF) ⇒ accepting s f e ⁏ e

-- ---- 20: the answer
-- tells the counter as it was before the code
abbrev pub tells_before : Reader
tells_before = doing 0x20 λ f s image d e. tells (0x90 ∷ counter_of f image ∷ []) e

-- tells 63 Cx for a wrong code, x being the tries left
abbrev pub tells63 : Reader
tells63 = at_wrong λ f s image d e. tells (0x63 ∷ (0xC0 + tries (counter_of f e.image)) ∷ []) e

-- tells 90 and the number of tries left for a code
abbrev pub tells_tries : Reader
tells_tries = doing 0x20 λ f s image d e. tells (0x90 ∷ tries (counter_of f e.image) ∷ []) e

-- tells 90 00 for every code
abbrev pub tells_done : Reader
tells_done = doing 0x20 λ f s image d e. tells done e

-- answers 20 with the card's code
abbrev pub tells_code : Reader
tells_code = doing 0x20 λ f s image d e. tells (take f.digits (drop f.code image) ++ done) e

-- ---- what a code leaves of the slot
-- drops the type after a wrong code
abbrev pub wrong_unselects : Reader
wrong_unselects = at_wrong λ f s image d e. stands (type_as 0 e.slot) e

-- powers the card off after a wrong code
abbrev pub wrong_powers_off : Reader
wrong_powers_off = at_wrong λ f s image d e. stands (powered false e.slot) e

-- ---- the numbers of a code card
-- takes the byte before the counter for the counter
abbrev pub counter_before : Reader
counter_before = rowed λ f. placed (f.counter - 1) f.code f.bits f.covered f

-- takes the code for one byte further on
abbrev pub code_behind : Reader
code_behind = rowed λ f. placed f.counter (f.code + 1) f.bits f.covered f

-- takes the protection bytes for one byte further on
abbrev pub bits_behind : Reader
bits_behind = rowed λ f. placed f.counter f.code (f.bits + 1) f.covered f

-- knows of protection bits for eight bytes fewer
abbrev pub covers_less : Reader
covers_less = rowed λ f. placed f.counter f.code f.bits (f.covered - 8) f
