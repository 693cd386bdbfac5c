-- Wrong readers of what is turned down without an answer, of insertion and of removal.
use Rattle.std.specs.Prelude.{ℕ, ◌+◌, ◌-◌, Bool, true, false, not, List, [], ◌∷◌, ◌++◌, length, take, drop, set, replicate, leb, ltb, Option, Some, None}
use Rattle.words.specs.Choice.{◌⇒◌⁏◌, ◌and◌, ◌or◌, ◌means◌, ◌is◌, ◌isnt◌}
use Rattle.words.specs.Bytes.{byte, blank}
use Rattle.bits.specs.Bits.{is_protected}
use Rattle.chips.specs.declared.Facts.{Facts}
use Rattle.chips.specs.Kinds.{chip_of}
use Rattle.slot.specs.declared.Slot.{Slot}
use Rattle.slot.specs.Slots.{occupied, own_type, removed, powered, selecting, type_as, page_as, chosen_as, opened, closed}
use Rattle.sound.specs.Sound.{full_code, image_is_card, page_size, empty_sound, idle_sound, type_sound, open_sound, set_sound, counts_sound, sound}
use Rattle.frame.specs.declared.Refusal.{Refusal}
use Rattle.frame.specs.Exchange.{turned_down, exchange, insertion}
use Rattle.wrong.specs.Wrong.{recounting, Reader, Inserter, Remover, numbering, saying, slotting, imaging, card_in, taking, vetting, inserts_by, upon_insert}
use Rattle.chips.specs.declared.Chip.{Chip}

-- ---- numbers 1 and 2
-- takes an answer buffer of 270 bytes
abbrev pub takes270 : Reader
takes270 s image m room = exchange s image m (room + 1)

-- turns an answer buffer of 271 bytes down
abbrev pub refuses271 : Reader
refuses271 s image m room = exchange s image m (room - 1)

-- does not look at the answer buffer's length
abbrev pub any_buffer : Reader
any_buffer s image m room = exchange s image m 271

-- takes a message of 9 bytes, with a 00h put behind it
abbrev pub takes_nine : Reader
takes_nine s image m room = exchange s image (length m is 9 ⇒ m ++ (0x00 ∷ []) ⁏ m) room

-- turns a message of 10 bytes down
abbrev pub refuses_ten : Reader
refuses_ten s image m room = exchange s image (length m is 10 ⇒ take 9 m ⁏ m) room

-- ---- number 3, clause by clause
abbrev pub size_fits : Facts → List ℕ → Bool
size_fits f image = length image is f.size

abbrev pub counter_fits : Facts → List ℕ → Bool
counter_fits f image = leb (byte image f.counter) f.full

abbrev pub own_bit_fits : Facts → List ℕ → Bool
own_bit_fits f image = not (is_protected f.bits f.covered image f.counter)

abbrev pub zeros_fit : Facts → List ℕ → Bool
zeros_fit f image = blank (drop f.zeros image)

-- takes an image of another length
abbrev pub any_length : Reader
any_length = taking λ f image. counter_fits f image and own_bit_fits f image and zeros_fit f image

-- takes a 4442 counter above 07h
abbrev pub any_counter : Reader
any_counter = taking λ f image. size_fits f image and own_bit_fits f image and zeros_fit f image

-- takes a 4428 whose bit for 3FDh is 0
abbrev pub any_own_bit : Reader
any_own_bit = taking λ f image. size_fits f image and counter_fits f image and zeros_fit f image

-- looks at the image where there is no card, and turns one that is not empty down
abbrev pub looks_at_nothing : Reader
looks_at_nothing s image m room =
    let o = exchange s image m room in
    not (occupied s.holds) and (o.number is 0 or o.number is 4) and length image isnt 0 ⇒ turned_down Refusal.Image s image
    ⁏ o

-- ---- number 4, clause by clause: soundness without that clause. "Inactive means closed" cannot be missed alone: an open slot needs its type.
abbrev pub rest_is : Slot → List ℕ → Bool
rest_is s image = set_sound s.holds s.set and counts_sound s image

-- lets any page size through
abbrev pub any_page : Reader
any_page = vetting λ s image. empty_sound s and idle_sound s and type_sound s and open_sound s image and rest_is s image

-- lets an empty slot through that is active
abbrev pub empty_active : Reader
empty_active = vetting λ s image.
    page_size s.page and (occupied s.holds or s.page is 8 and not s.chosen) and idle_sound s and type_sound s and open_sound s image and rest_is s image

-- lets an empty slot through whose page is not 8
abbrev pub empty_paged : Reader
empty_paged = vetting λ s image.
    page_size s.page and (occupied s.holds or not s.active and not s.chosen) and idle_sound s and type_sound s and open_sound s image and rest_is s image

-- lets an inactive slot through that has a type
abbrev pub idle_typed : Reader
idle_typed = vetting λ s image.
    page_size s.page and empty_sound s and (s.active or not s.«open») and type_sound s and open_sound s image and rest_is s image

-- lets an inactive slot through that has a type and is open
abbrev pub idle_open : Reader
idle_open = vetting λ s image. page_size s.page and empty_sound s and type_sound s and open_sound s image and rest_is s image

-- lets a selected type through that is not the kind's own
abbrev pub other_type : Reader
other_type = vetting λ s image. page_size s.page and empty_sound s and idle_sound s and open_sound s image and rest_is s image

-- lets a card through that is open and no code card
abbrev pub open_plain : Reader
open_plain = vetting λ s image.
    page_size s.page and empty_sound s and idle_sound s and type_sound s
    and (s.«open» means (full_code s.holds image or not (card_in s.holds).coded) and s.selected is own_type s.holds) and rest_is s image

-- lets a code card through that is open with no type
abbrev pub open_untyped : Reader
open_untyped = vetting λ s image.
    page_size s.page and empty_sound s and idle_sound s and type_sound s and (s.«open» means full_code s.holds image) and rest_is s image

-- lets a code card through that is open with a counter that is not full
abbrev pub open_spent : Reader
open_spent = vetting λ s image.
    page_size s.page and empty_sound s and idle_sound s and type_sound s
    and (s.«open» means (card_in s.holds).coded and s.selected is own_type s.holds) and rest_is s image

-- lets a code card through that is open where the byte before its counter is full
abbrev pub open_before : Reader
open_before = vetting λ s image.
    page_size s.page and empty_sound s and idle_sound s and type_sound s
    and (s.«open» means (card_in s.holds).coded and s.selected is own_type s.holds
    and byte image ((card_in s.holds).counter - 1) is (card_in s.holds).full) and rest_is s image

-- ---- the order of the tests, and what a call that is turned down leaves
-- tests 2 before 1
abbrev pub message_first : Reader
message_first s image m room = ltb (length m) 10 ⇒ turned_down Refusal.Message s image ⁏ exchange s image m room

-- tests 3 before 2
abbrev pub image_first : Reader
image_first s image m room =
    let o = exchange s image m room in
    o.number is 2 and not (image_is_card s.holds image) ⇒ turned_down Refusal.Image s image
    ⁏ o

-- tests 4 before 3
abbrev pub record_first : Reader
record_first s image m room =
    let o = exchange s image m room in
    o.number is 3 and not (sound s image) ⇒ turned_down Refusal.Record s image
    ⁏ o

-- gives the next number in place of this one to what is turned down
abbrev pub misnumbers : ℕ → Reader
misnumbers n s image m room = let o = exchange s image m room in o.number is n ⇒ numbering (n + 1) o ⁏ o

-- answers a message that it turns down: ten bytes that say failed
abbrev pub answers_down : Reader
answers_down s image m room =
    let o = exchange s image m room in
    o.number is 0 ⇒ o
    ⁏ saying (0x81 ∷ 0 ∷ 0 ∷ 0 ∷ 0 ∷ 0 ∷ 0 ∷ 0x42 ∷ 0 ∷ 1 ∷ []) o

-- closes the card where it turns a message down
abbrev pub down_closes : Reader
down_closes s image m room = let o = exchange s image m room in o.number is 0 ⇒ o ⁏ slotting (closed s) o

-- empties a slot record that it turns down
abbrev pub mends_slot : Reader
mends_slot s image m room = let o = exchange s image m room in o.number is 4 ⇒ slotting removed o ⁏ o

-- fills the counter of a code card's image that it turns down
abbrev pub mends_image : Reader
mends_image s image m room =
    let o = exchange s image m room in
    o.number is 3 and (card_in s.holds).coded ⇒ imaging (set image (card_in s.holds).counter (card_in s.holds).full) o
    ⁏ o

-- ---- insertion: numbers 5 and 3
-- replaces the card that is in
abbrev pub replaces_card : Inserter
replaces_card s kind image = insertion removed kind image

-- takes the card out that is in, and turns the new one down
abbrev pub refusal_ejects : Inserter
refusal_ejects s kind image = let o = insertion s kind image in o.number is 5 ⇒ slotting removed o ⁏ o

-- gives number 3 in place of 5
abbrev pub occupied_as3 : Inserter
occupied_as3 s kind image = let o = insertion s kind image in o.number is 5 ⇒ numbering 3 o ⁏ o

-- tests 3 before 5 at an insertion
abbrev pub kind_first : Inserter
kind_first s kind image = (insertion removed kind image).number is 3 ⇒ turned_down Refusal.Image s image ⁏ insertion s kind image

-- turns an insertion into an unsound empty slot down, as number 4
abbrev pub vets_slot : Inserter
vets_slot s kind image = not (occupied s.holds) and not (sound s image) ⇒ turned_down Refusal.Record s image ⁏ insertion s kind image

abbrev pub known_or1 : Option Chip → ℕ → ℕ
known_or1 (Some chip) kind = kind
known_or1 None kind = 1

-- takes an unknown kind for kind 1
abbrev pub any_kind : Inserter
any_kind s kind image = insertion s (known_or1 (chip_of kind) kind) image

-- does not know this kind
abbrev pub drops_kind : ℕ → Inserter
drops_kind k s kind image = insertion s (kind is k ⇒ 0 ⁏ kind) image

-- inserts an image of another length
abbrev pub inserts_any_length : Inserter
inserts_any_length = inserts_by λ f image. counter_fits f image and own_bit_fits f image and zeros_fit f image

-- inserts a 4442 whose counter is above 07h
abbrev pub inserts_any_counter : Inserter
inserts_any_counter = inserts_by λ f image. size_fits f image and own_bit_fits f image and zeros_fit f image

-- inserts a 4428 whose bit for 3FDh is 0
abbrev pub inserts_any_own_bit : Inserter
inserts_any_own_bit = inserts_by λ f image. size_fits f image and counter_fits f image and zeros_fit f image

-- ---- insertion: what it gives
-- powers the card at its insertion
abbrev pub insert_powers : Inserter
insert_powers = upon_insert λ f s o. slotting (powered true o.slot) o

-- selects the card's type at its insertion
abbrev pub insert_selects : Inserter
insert_selects = upon_insert λ f s o. slotting (selecting f.selects o.slot) o

-- powers the card and selects its type at its insertion
abbrev pub insert_readies : Inserter
insert_readies = upon_insert λ f s o. slotting (selecting f.selects (powered true o.slot)) o

-- opens the card at its insertion
abbrev pub insert_opens : Inserter
insert_opens = upon_insert λ f s o. slotting (opened o.slot) o

-- keeps the page that the slot had at an insertion
abbrev pub insert_keeps_page : Inserter
insert_keeps_page = upon_insert λ f s o. slotting (page_as s.page o.slot) o

-- sets the reader page to the chip's at an insertion
abbrev pub insert_chip_page : Inserter
insert_chip_page = upon_insert λ f s o. f.page is 0 ⇒ o ⁏ slotting (page_as f.page o.slot) o

-- gives all tries back at an insertion
abbrev pub insert_gives_all : Inserter
insert_gives_all = upon_insert λ f s o. f.coded ⇒ recounting (imaging (set o.image f.counter f.full) o) ⁏ o

-- erases the card at its insertion
abbrev pub insert_erases : Inserter
insert_erases = upon_insert λ f s o. imaging (replicate (length o.image) 0xFF) o

-- answers an insertion with 50 03
abbrev pub insert_answers : Inserter
insert_answers = upon_insert λ f s o. saying (0x50 ∷ 0x03 ∷ []) o

-- ---- removal
-- keeps the card at a removal
abbrev pub remove_keeps_card : Remover
remove_keeps_card s = page_as 8 (chosen_as false (powered false s))

-- keeps the slot active at a removal
abbrev pub remove_keeps_active : Remover
remove_keeps_active s = powered s.active removed

-- keeps the type at a removal
abbrev pub remove_keeps_type : Remover
remove_keeps_type s = type_as s.selected removed

-- keeps the page at a removal
abbrev pub remove_keeps_page : Remover
remove_keeps_page s = page_as s.page removed

-- keeps the slot open at a removal
abbrev pub remove_keeps_open : Remover
remove_keeps_open s = s.«open» ⇒ opened removed ⁏ removed

-- leaves a slot without a card as it is at a removal, sound or not
abbrev pub remove_only_cards : Remover
remove_only_cards s = occupied s.holds ⇒ removed ⁏ s
