-- Wrong session programs, each as short as its fault, with an input on which it prints something else than the rules.
use Rattle.std.specs.Prelude.{ℕ, zero, suc, ◌+◌, ◌-◌, ◌*◌, ◌/◌, ◌%◌, Bool, true, false, not, List, [], ◌∷◌, ◌++◌, map, length, take, drop, set, replicate, ltb, leb, Ok, Err}
use Rattle.words.specs.Choice.{◌⇒◌⁏◌, ◌and◌, ◌or◌, ◌is◌}
use Rattle.words.specs.Bytes.{byte, same}
use Rattle.records.specs.declared.Mark.{Mark}
use Rattle.records.specs.declared.Mark.TheVariants.{Insert, Remove, Message}
use Rattle.records.specs.declared.Stop.TheVariants.{Cut, Bad, End}
use Rattle.records.specs.Records.{Found, word_at, length_at, record_at}
use Rattle.chips.specs.declared.Chip.{Chip}
use Rattle.chips.specs.declared.Chip.TheVariants.{I2c1, I2c512, I2c1024}
use Rattle.lines.specs.Text.{text}
use Rattle.lines.specs.Lines.{word, ending, line}
use Rattle.slot.specs.declared.Slot.{Slot}
use Rattle.slot.specs.Slots.{removed, inserted}
use Rattle.frame.specs.Exchange.{Outcome}
use Rattle.printed.specs.Printed.{comes_of, line_of, parting, next, printed}
use Rattle.printed.specs.Rows.{recorded, insert, remove, message, image1, status, power_record, select_record, read3, write3}

abbrev pub Printer : Type 0
Printer = List ℕ → List ℕ

-- what is printed of what is left of the input, by the slot and the image that are held
abbrev pub Printing : Type 0
Printing = List ℕ → Slot → List ℕ → List ℕ

-- ---- a session program by its parts: the record that it reads first, what comes of a whole one, its line, and what it prints where it stops
pub record PrinterParts : Type 0 where
  pub reads : List ℕ → Found
  pub does : Mark → List ℕ → Slot → List ℕ → Outcome
  pub says : Mark → Outcome → List ℕ
  pub leaves : Found → List ℕ

unfoldable pub going : PrinterParts → Printing → Found → Printing
going p after (Ok r) left s image =
    let o = p.does r.mark (take (r.end - r.start) (drop r.start left)) s image in
    p.says r.mark o ++ after (drop r.end left) o.slot o.image
going p after (Err stop) left s image = p.leaves (Err stop)

unfoldable pub by : PrinterParts → ℕ → Printing
by p zero left s image = []
by p (suc n) left s image = going p (by p n) (p.reads left) left s image

-- from the empty sound slot on; the records are fewer than the bytes, and the end is one more
unfoldable pub printer : PrinterParts → Printer
printer p input = by p (length input + 1) input removed []

abbrev pub first_record : List ℕ → Found
first_record left = record_at left 0

-- the right one, and those with one part of their own
abbrev pub right_parts : PrinterParts
right_parts = record { reads = first_record; does = comes_of; says = line_of; leaves = parting }

abbrev pub reading_by : (List ℕ → Found) → Printer
reading_by f = printer (record { reads = f; does = comes_of; says = line_of; leaves = parting })

abbrev pub done_by : (Mark → List ℕ → Slot → List ℕ → Outcome) → Printer
done_by f = printer (record { reads = first_record; does = f; says = line_of; leaves = parting })

abbrev pub saying_by : (Mark → Outcome → List ℕ) → Printer
saying_by f = printer (record { reads = first_record; does = comes_of; says = f; leaves = parting })

abbrev pub leaving_by : (Found → List ℕ) → Printer
leaving_by f = printer (record { reads = first_record; does = comes_of; says = line_of; leaves = f })

-- ---- the faults
-- prints 0 for every number: `msg 0` for a message that is turned down
unfoldable pub zeroes : Mark → Outcome → List ℕ
zeroes mark o = line mark 0 o.answer

-- a blank and the answer, which is empty, behind a number that is not 0
unfoldable pub answers_all : Mark → Outcome → List ℕ
answers_all mark o = word mark ++ ((48 + o.number) ∷ ending true o.answer)

-- no answer at all
unfoldable pub answers_none : Mark → Outcome → List ℕ
answers_none mark o = word mark ++ ((48 + o.number) ∷ ending false o.answer)

-- upper-case hex
unfoldable pub upper : ℕ → ℕ
upper b = leb 0x61 b and leb b 0x66 ⇒ b - 32 ⁏ b

unfoldable pub upper_case : Mark → Outcome → List ℕ
upper_case mark o = word mark ++ map upper (drop (length (word mark)) (line_of mark o))

-- a byte's low digit first
unfoldable pub digits_swapped : Mark → Outcome → List ℕ
digits_swapped mark o = line mark o.number (map (λ (b : ℕ). b % 16 * 16 + b / 16) o.answer)

-- one word for insert and removal
unfoldable pub one_word : Mark → Outcome → List ℕ
one_word Insert o = line_of Insert o
one_word Remove o = line_of Insert o
one_word Message o = line_of Message o

-- `bad` at a clean end; nothing at a cut record; nothing at a bad one
unfoldable pub bad_at_end : Found → List ℕ
bad_at_end r = text "bad\n"

unfoldable pub nothing_at_cut : Found → List ℕ
nothing_at_cut (Ok r) = []
nothing_at_cut (Err Cut) = []
nothing_at_cut (Err Bad) = text "bad\n"
nothing_at_cut (Err End) = []

unfoldable pub nothing_at_bad : Found → List ℕ
nothing_at_bad (Ok r) = []
nothing_at_bad (Err Cut) = text "bad\n"
nothing_at_bad (Err Bad) = []
nothing_at_bad (Err End) = []

-- the length's high byte first
unfoldable pub high_first : List ℕ → Found
high_first left = first_record (set (set left 2 (byte left 3)) 3 (byte left 2))

-- an insert with an empty body is bad
abbrev pub inserts_nothing : Mark → ℕ → ℕ → Bool
inserts_nothing Insert start end = start is end
inserts_nothing Remove start end = false
inserts_nothing Message start end = false

unfoldable pub no_empty : Found → Found
no_empty (Ok r) = inserts_nothing r.mark r.start r.end ⇒ Err Bad ⁏ Ok r
no_empty (Err stop) = Err stop

unfoldable pub empty_insert_bad : List ℕ → Found
empty_insert_bad left = no_empty (first_record left)

-- a body is taken that is bad for its mark, where it is there: a removal's, and a message's of more than 32,769 bytes
unfoldable pub taking_body : ℕ → Mark → List ℕ → Found
taking_body w mark left = word_at left 0 is w and leb (4 + length_at left 0) (length left) ⇒ Ok (record { mark = mark; start = 4; end = 4 + length_at left 0 }) ⁏ first_record left

-- a body of 32,769 bytes is too long
unfoldable pub bound_less : List ℕ → Found
bound_less left = length_at left 0 is 32769 ⇒ Err Bad ⁏ first_record left

-- a cut header is the end of the input
unfoldable pub cut_header_ends : List ℕ → Found
cut_header_ends left = ltb (length left) 4 ⇒ Err End ⁏ first_record left

-- what is there of a cut body is taken for a message
unfoldable pub cut_is_whole : Found → List ℕ → Found
cut_is_whole (Ok r) left = Ok r
cut_is_whole (Err Cut) left = ltb (length left) 4 ⇒ Err Cut ⁏ Ok (record { mark = Message; start = 4; end = length left })
cut_is_whole (Err Bad) left = Err Bad
cut_is_whole (Err End) left = Err End

unfoldable pub takes_cut_body : List ℕ → Found
takes_cut_body left = cut_is_whole (first_record left) left

-- a record that ends with the input is cut
unfoldable pub end_is_cut : List ℕ → Found
end_is_cut left = first_record (take (length left - 1) left)

-- a body has a byte more than its length says
unfoldable pub body_one_more : List ℕ → Found
body_one_more left = first_record (set left 2 (byte left 2 + 1))

-- a message is taken for an insert
unfoldable pub message_inserts : Mark → List ℕ → Slot → List ℕ → Outcome
message_inserts Insert body s image = comes_of Insert body s image
message_inserts Remove body s image = comes_of Remove body s image
message_inserts Message body s image = comes_of Insert body s image

-- a removal that asks for a card
unfoldable pub asks_for_card : Mark → List ℕ → Slot → List ℕ → Outcome
asks_for_card Insert body s image = comes_of Insert body s image
asks_for_card Remove body s image = record { number = length image is 0 ⇒ 3 ⁏ 0; answer = []; slot = removed; image = [] }
asks_for_card Message body s image = comes_of Message body s image

-- the image of a card that is turned down is kept
unfoldable pub keeps_refused : Mark → List ℕ → Slot → List ℕ → Outcome
keeps_refused Insert body s image = let o = comes_of Insert body s image in record { number = o.number; answer = o.answer; slot = o.slot; image = drop 1 body }
keeps_refused Remove body s image = comes_of Remove body s image
keeps_refused Message body s image = comes_of Message body s image

-- the kind byte is taken for the image's first
unfoldable pub kind_in_image : Mark → List ℕ → Slot → List ℕ → Outcome
kind_in_image Insert body s image = comes_of Insert (byte body 0 ∷ take (length body - 1) body) s image
kind_in_image Remove body s image = comes_of Remove body s image
kind_in_image Message body s image = comes_of Message body s image

-- the slot, or the image, is not handed on
unfoldable pub slot_forgotten : Mark → List ℕ → Slot → List ℕ → Outcome
slot_forgotten mark body s image = let o = comes_of mark body s image in record { number = o.number; answer = o.answer; slot = s; image = o.image }

unfoldable pub image_forgotten : Mark → List ℕ → Slot → List ℕ → Outcome
image_forgotten mark body s image =
    let o = comes_of mark body s image in
    record { number = o.number; answer = o.answer; slot = o.slot; image = length image is 0 ⇒ o.image ⁏ image }

-- puts in a card of this kind, whatever its image
unfoldable pub puts_large : ℕ → Chip → Mark → List ℕ → Slot → List ℕ → Outcome
puts_large k chip Insert body s image =
    let o = comes_of Insert body s image in
    byte body 0 is k and o.number is 3 ⇒ record { number = 0; answer = []; slot = inserted chip 0 0; image = drop 1 body }
    ⁏ o
puts_large k chip Remove body s image = comes_of Remove body s image
puts_large k chip Message body s image = comes_of Message body s image

-- asks for the kind first: 3 for kinds 10 and 11 while a card is in
unfoldable pub large_first : Mark → List ℕ → Slot → List ℕ → Outcome
large_first Insert body s image =
    let o = comes_of Insert body s image in
    record { number = byte body 0 is 10 or byte body 0 is 11 ⇒ 3 ⁏ o.number; answer = o.answer; slot = o.slot; image = o.image }
large_first Remove body s image = comes_of Remove body s image
large_first Message body s image = comes_of Message body s image

-- an insert of kind 10 or 11 is bad
unfoldable pub large_bad : List ℕ → Found
large_bad left = word_at left 0 is 0x4349 and (byte left 4 is 10 or byte left 4 is 11) ⇒ Err Bad ⁏ first_record left

-- goes on behind a bad record
unfoldable pub past_bad : Printing → Found → Printing
past_bad after (Ok r) left s image = next after (Ok r) left s image
past_bad after (Err Cut) left s image = parting (Err Cut)
past_bad after (Err Bad) left s image = parting (Err Bad) ++ after (drop (4 + length_at left 0) left) s image
past_bad after (Err End) left s image = parting (Err End)

unfoldable pub goes_on : ℕ → Printing
goes_on zero left s image = []
goes_on (suc n) left s image = past_bad (goes_on n) (first_record left) left s image

-- ---- the table
pub record Misprint : Type 0 where
  pub prints : Printer
  pub input : List ℕ

unfoldable pub printer_caught : Misprint → Bool
printer_caught w = not (same (w.prints w.input) (printed w.input))

-- the number of the first one that is not caught, the first being number k; 0 where all are
unfoldable pub printer_uncaught : ℕ → List Misprint → ℕ
printer_uncaught k [] = 0
printer_uncaught k (w ∷ ws) = let later = printer_uncaught (k + 1) ws in printer_caught w ⇒ later ⁏ k

infixr 2 ◌on◌
abbrev pub ◌on◌ : Printer → List ℕ → Misprint
p on input = record { prints = p; input = input }

unfoldable pub wrong_printers : List Misprint
wrong_printers =
    (saying_by zeroes on message [])
    ∷ (saying_by answers_all on message [])
    ∷ (saying_by answers_none on status)
    ∷ (saying_by upper_case on power_record)
    ∷ (saying_by digits_swapped on power_record)
    ∷ (saying_by one_word on remove)
    ∷ (leaving_by bad_at_end on remove)
    ∷ (leaving_by nothing_at_cut on 0x43 ∷ 0x4F ∷ [])
    ∷ (leaving_by nothing_at_bad on 0x4F ∷ 0x4E ∷ 0x00 ∷ 0x00 ∷ [])
    ∷ (reading_by high_first on status)
    ∷ (reading_by empty_insert_bad on recorded 0x43 0x49 [])
    ∷ (reading_by (taking_body 0x434F Remove) on recorded 0x43 0x4F (0 ∷ []))
    ∷ (reading_by (taking_body 0x4F4D Message) on message (replicate 32770 0))
    ∷ (reading_by bound_less on message (replicate 32769 0))
    ∷ (reading_by cut_header_ends on 0x43 ∷ 0x4F ∷ [])
    ∷ (reading_by takes_cut_body on 0x4F ∷ 0x4D ∷ 0x02 ∷ 0x00 ∷ 0x65 ∷ [])
    ∷ (reading_by end_is_cut on status)
    ∷ (reading_by body_one_more on status ++ remove)
    ∷ (done_by message_inserts on message [])
    ∷ (done_by asks_for_card on remove)
    ∷ (done_by keeps_refused on insert 1 (image1 0) ++ power_record ++ select_record ++ insert 1 (image1 1) ++ read3)
    ∷ (done_by kind_in_image on insert 1 (image1 0) ++ power_record ++ select_record ++ read3)
    ∷ (done_by slot_forgotten on insert 1 (image1 0) ++ status)
    ∷ (done_by image_forgotten on insert 1 (image1 0) ++ power_record ++ select_record ++ write3 ++ read3)
    ∷ (done_by (puts_large 10 I2c512) on insert 10 (image1 0))
    ∷ (done_by (puts_large 11 I2c1024) on insert 11 (image1 0))
    ∷ (done_by large_first on insert 1 (image1 0) ++ insert 10 (image1 0))
    ∷ (reading_by large_bad on insert 11 (image1 0))
    -- starts with the card that the last session left
    ∷ ((λ (input : List ℕ). by right_parts (length input + 1) input (inserted I2c1 0 0) (image1 0)) on status)
    ∷ ((λ (input : List ℕ). goes_on (length input + 1) input removed []) on recorded 0x43 0x4F (0 ∷ []) ++ remove)
    ∷ []

-- all faults at once, for the theorem that computes the table
unfoldable pub print_faults : ℕ
unfolding zeroes answers_all answers_none upper upper_case digits_swapped one_word bad_at_end nothing_at_cut nothing_at_bad high_first no_empty empty_insert_bad taking_body
print_faults = 0

unfoldable pub more_print_faults : ℕ
unfolding going by printer printer_caught printer_uncaught bound_less cut_header_ends cut_is_whole takes_cut_body end_is_cut body_one_more message_inserts
    asks_for_card keeps_refused kind_in_image slot_forgotten image_forgotten puts_large large_first large_bad past_bad goes_on
more_print_faults = 0
