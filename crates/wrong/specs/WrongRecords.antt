-- Wrong readers of a raw record, each as short as its fault, with an input at which it gives something else than the rules: messages,
-- insertions and removals on 32 bytes, and the one number that C gets.
use Rattle.std.specs.Prelude.{ℕ, ◌+◌, ◌≡◌, Bool, false, not, List, [], ◌∷◌, ◌++◌, length, take, drop, set, replicate, ltb, ℤ, pos, negsuc, Option, Result, Some, None, Ok, Err}
use Rattle.std.proofs.lemmas.List.Edits.{sets}
use Rattle.words.specs.Choice.{◌⇒◌⁏◌, ◌and◌, ◌is◌, ◌isnt◌}
use Rattle.words.specs.Bytes.{byte, same, low_first}
use Rattle.words.specs.Bounds.{least_room}
use Rattle.chips.specs.declared.Chip.TheVariants.{I2c1, Sle4418, Sle4442}
use Rattle.chips.specs.Kinds.{chip_of}
use Rattle.sets.specs.Sets.{default_set}
use Rattle.slot.specs.Slots.{removed, page_as}
use Rattle.record.specs.declared.Flaw.{Flaw}
use Rattle.slot.specs.declared.Slot.{Slot}
use Rattle.record.specs.Raw.{raw_of, slot_of}
use Rattle.frame.specs.declared.Refusal.{Refusal}
use Rattle.reader.specs.Fronts.{front_of}
use Rattle.calls.specs.Calls.{RawOutcome, raw_down, raw_served, raw_exchange, raw_insertion, raw_removal, RawGives, result_of}
use Rattle.vectors.specs.Sessions.{recounted, fresh, image4442, wrong4442}
use Rattle.vectors.specs.Plain.{image4418}
use Rattle.promise.specs.Visits.{select, set_page}
use Rattle.wrong.specs.ParamRows.{good1, stored}
use Rattle.wrong.specs.CountRows.{kept255}
use Rattle.wrong.specs.PageRows.{chosen_i2c}
use Rattle.wrong.specs.Inputs.{bare, shut, wide, mem4442, kept4442, mem_i2c, plain, ask}
use Rattle.chips.specs.declared.Chip.{Chip}

-- ---- what a reader of a raw record is: of a message (record, image, message, length of the answer buffer), of an insertion, of a removal; and
-- what C gets of a refusal's number and an answer's length
abbrev pub RawReader : Type 0
RawReader = List ℕ → List ℕ → List ℕ → ℕ → RawOutcome

abbrev pub RawInserter : Type 0
RawInserter = List ℕ → ℕ → List ℕ → RawOutcome

abbrev pub RawRemover : Type 0
RawRemover = List ℕ → RawOutcome

abbrev pub Teller : Type 0
Teller = ℕ → ℕ → ℤ

-- ---- our reader with one part put wrong
-- an outcome with another number; with another record; with byte k of its record
abbrev pub raw_numbering : ℕ → RawOutcome → RawOutcome
raw_numbering n o = record { number = n; answer = o.answer; raw = o.raw; image = o.image }

abbrev pub rawing : List ℕ → RawOutcome → RawOutcome
rawing r o = record { number = o.number; answer = o.answer; raw = r; image = o.image }

abbrev pub raw_marking : ℕ → ℕ → RawOutcome → RawOutcome
raw_marking k v o = rawing (set o.raw k v) o

-- the record is read by `reads`; given `slot_of`, it is our reader (proofs/CaughtRecords)
abbrev pub fronted_by : Result ℕ Refusal → Result Slot Flaw → List ℕ → List ℕ → List ℕ → RawOutcome
fronted_by (Err f) x r image m = raw_down f r image
fronted_by (Ok n) x r image m = raw_served x r image m

unfoldable pub record_by : (List ℕ → Result Slot Flaw) → RawReader
record_by reads r image m room = fronted_by (front_of m room) (reads r) r image m

-- a message that is answered leaves another record: what `change` makes of the one before and the outcome
unfoldable pub upon_answer : (List ℕ → RawOutcome → RawOutcome) → RawReader
upon_answer change r image m room = let o = raw_exchange r image m room in o.number is 0 ⇒ change r o ⁏ o

-- ---- reading the record
-- does not look at the rest of the record
abbrev pub raw_any_rest : RawReader
raw_any_rest = record_by λ r. slot_of (length r is 32 ⇒ take 17 r ++ replicate 15 0 ⁏ r)

-- does not look at the last byte of the record
abbrev pub raw_last_unseen : RawReader
raw_last_unseen = record_by λ r. slot_of (length r is 32 ⇒ set r 31 0 ⁏ r)

-- takes an active byte of 2 for 1
abbrev pub raw_active2 : RawReader
raw_active2 = record_by λ r. slot_of (byte r 1 is 2 ⇒ set r 1 1 ⁏ r)

-- takes an open byte of 2 for 1
abbrev pub raw_open2 : RawReader
raw_open2 = record_by λ r. slot_of (byte r 4 is 2 ⇒ set r 4 1 ⁏ r)

-- takes a longer record by its first 32 bytes
abbrev pub raw_any_length : RawReader
raw_any_length = record_by λ r. slot_of (take 32 r)

-- takes the page's byte for the type, and the type's for the page
abbrev pub raw_type_for_page : RawReader
raw_type_for_page = record_by λ r. slot_of (set (set r 2 (byte r 3)) 3 (byte r 2))

-- takes the open byte for the active one, and the active for the open
abbrev pub raw_active_for_open : RawReader
raw_active_for_open = record_by λ r. slot_of (set (set r 1 (byte r 4)) 4 (byte r 1))

-- takes the default for any parameters
abbrev pub raw_set_unread : RawReader
raw_set_unread = record_by λ r. slot_of (length r is 32 ⇒ sets r 5 (low_first 7 default_set) ⁏ r)

-- takes the protocol number for the last byte of the parameters
abbrev pub raw_protocol_last : RawReader
raw_protocol_last = record_by λ r. slot_of (length r is 32 ⇒ take 5 r ++ take 7 (drop 6 r) ++ (byte r 5 ∷ drop 13 r) ⁏ r)

-- does not look at the last byte of the parameters
abbrev pub raw_nad_unseen : RawReader
raw_nad_unseen = record_by λ r. slot_of (length r is 32 ⇒ set r 12 0 ⁏ r)

-- takes the number of protected bytes high byte first
abbrev pub raw_high_first : RawReader
raw_high_first = record_by λ r. slot_of (set (set r 14 (byte r 15)) 15 (byte r 14))

-- does not look at the high byte of the number of protected bytes
abbrev pub raw_high_unseen : RawReader
raw_high_unseen = record_by λ r. slot_of (length r is 32 ⇒ set r 15 0 ⁏ r)

-- takes the low byte of the number of protected bytes for tries left, and tries left for it
abbrev pub raw_tries_for_count : RawReader
raw_tries_for_count = record_by λ r. slot_of (set (set r 13 (byte r 14)) 14 (byte r 13))

-- does not look at the flag of the page
abbrev pub raw_flag_unread : RawReader
raw_flag_unread = record_by λ r. slot_of (length r is 32 ⇒ set r 16 0 ⁏ r)

-- takes a flag of 2 for 1
abbrev pub raw_flag2 : RawReader
raw_flag2 = record_by λ r. slot_of (byte r 16 is 2 ⇒ set r 16 1 ⁏ r)

-- takes any flag but 0 for 1
abbrev pub raw_flag_any : RawReader
raw_flag_any = record_by λ r. slot_of (length r is 32 and byte r 16 isnt 0 ⇒ set r 16 1 ⁏ r)

-- takes any flag but 1 for 0
abbrev pub raw_flag_else0 : RawReader
raw_flag_else0 = record_by λ r. slot_of (length r is 32 and byte r 16 isnt 1 ⇒ set r 16 0 ⁏ r)

-- asks that the flag is 00h, as the rest is
abbrev pub raw_flag_rest : RawReader
raw_flag_rest r image m room = let o = raw_exchange r image m room in o.number is 0 and byte r 16 isnt 0 ⇒ raw_down Refusal.Record r image ⁏ o

-- takes the open byte for the flag, and the flag for the open byte
abbrev pub raw_flag_for_open : RawReader
raw_flag_for_open = record_by λ r. slot_of (set (set r 4 (byte r 16)) 16 (byte r 4))

-- looks at the rest from byte 18 on
abbrev pub raw_rest_from18 : RawReader
raw_rest_from18 = record_by λ r. slot_of (length r is 32 ⇒ set r 17 0 ⁏ r)

-- tests the flag before the image
abbrev pub raw_flag_first : RawReader
raw_flag_first r image m room = let o = raw_exchange r image m room in o.number is 3 and ltb 1 (byte r 16) ⇒ raw_numbering 4 o ⁏ o

-- takes kind 0 for an unknown kind
abbrev pub raw_none_unknown : RawReader
raw_none_unknown = record_by λ r. byte r 0 is 0 ⇒ (Err Flaw.Unknown) ⁏ slot_of r

abbrev pub known_or0 : Option Chip → ℕ → ℕ
known_or0 (Some chip) kind = kind
known_or0 None kind = 0

-- takes an unknown kind for none
abbrev pub raw_unknown_none : RawReader
raw_unknown_none = record_by λ r. slot_of (set r 0 (known_or0 (chip_of (byte r 0)) (byte r 0)))

abbrev pub or_down4 : Option Chip → RawOutcome → RawOutcome
or_down4 (Some chip) o = o
or_down4 None o = o.number is 3 ⇒ raw_numbering 4 o ⁏ o

-- gives number 4 for an unknown kind
abbrev pub raw_unknown4 : RawReader
raw_unknown4 r image m room = or_down4 (chip_of (byte r 0)) (raw_exchange r image m room)

-- tests the record's length before its kind
abbrev pub raw_length_first : RawReader
raw_length_first r image m room = let o = raw_exchange r image m room in length r isnt 32 and o.number is 3 ⇒ raw_numbering 4 o ⁏ o

-- ---- writing the record
-- leaves the record as it was
abbrev pub raw_stays : RawReader
raw_stays = upon_answer λ r o. rawing r o

-- leaves the open byte as it was
abbrev pub raw_open_stays : RawReader
raw_open_stays = upon_answer λ r o. raw_marking 4 (byte r 4) o

-- writes the type into the page's byte too
abbrev pub raw_type_over_page : RawReader
raw_type_over_page = upon_answer λ r o. raw_marking 3 (byte o.raw 2) o

-- leaves the parameters as they were
abbrev pub raw_set_stays : RawReader
raw_set_stays = upon_answer λ r o. rawing (take 5 o.raw ++ take 8 (drop 5 r) ++ drop 13 o.raw) o

-- writes five bytes of the parameters
abbrev pub raw_five_bytes : RawReader
raw_five_bytes = upon_answer λ r o. rawing (sets o.raw 11 (0 ∷ 0 ∷ [])) o

-- leaves tries left as they were
abbrev pub raw_tries_stay : RawReader
raw_tries_stay = upon_answer λ r o. raw_marking 13 (byte r 13) o

-- leaves the number of protected bytes as it was
abbrev pub raw_count_stays : RawReader
raw_count_stays = upon_answer λ r o. raw_marking 14 (byte r 14) (raw_marking 15 (byte r 15) o)

-- leaves the high byte of the number of protected bytes as it was
abbrev pub raw_high_stays : RawReader
raw_high_stays = upon_answer λ r o. raw_marking 15 (byte r 15) o

-- leaves the flag of the page as it was
abbrev pub raw_flag_stays : RawReader
raw_flag_stays = upon_answer λ r o. raw_marking 16 (byte r 16) o

-- writes FFh for a flag that is set
abbrev pub raw_flag_ff : RawReader
raw_flag_ff = upon_answer λ r o. byte o.raw 16 is 1 ⇒ raw_marking 16 0xFF o ⁏ o

-- leaves the page as it was
abbrev pub raw_page_stays : RawReader
raw_page_stays = upon_answer λ r o. raw_marking 3 (byte r 3) o

-- forgets the card after a message
abbrev pub raw_forgets_card : RawReader
raw_forgets_card = upon_answer λ r o. raw_marking 0 0 o

-- empties a record that it turns down
abbrev pub raw_down_empties : RawReader
raw_down_empties r image m room = let o = raw_exchange r image m room in o.number is 0 ⇒ o ⁏ rawing (raw_of removed) o

-- ---- insertion
-- puts a card in over the one that is in
abbrev pub raw_inserts_over : RawInserter
raw_inserts_over r kind image = raw_insertion (set r 0 0) kind image

-- asks the active byte whether a card is in
abbrev pub raw_inserts_idle : RawInserter
raw_inserts_idle r kind image = byte r 1 is 0 ⇒ raw_insertion (set r 0 0) kind image ⁏ raw_insertion (set r 0 1) kind image

-- turns an insertion into a broken record without a card down, as number 4
abbrev pub raw_insert_vets : RawInserter
raw_insert_vets r kind image = byte r 31 isnt 0 ⇒ raw_down Refusal.Record r image ⁏ raw_insertion r kind image

-- puts a card into a record of another length
abbrev pub raw_inserts_any_length : RawInserter
raw_inserts_any_length r kind image = raw_insertion (take 32 r) kind image

-- leaves the rest of the record as it was at an insertion
abbrev pub raw_insert_keeps_rest : RawInserter
raw_insert_keeps_rest r kind image = let o = raw_insertion r kind image in o.number is 0 ⇒ rawing (take 17 o.raw ++ drop 17 r) o ⁏ o

-- leaves the parameters of the record as they were at an insertion
abbrev pub raw_insert_keeps_set : RawInserter
raw_insert_keeps_set r kind image =
    let o = raw_insertion r kind image in
    o.number is 0 ⇒ rawing (take 5 o.raw ++ take 8 (drop 5 r) ++ drop 13 o.raw) o
    ⁏ o

-- leaves the counts of the record as they were at an insertion
abbrev pub raw_insert_keeps_counts : RawInserter
raw_insert_keeps_counts r kind image =
    let o = raw_insertion r kind image in
    o.number is 0 ⇒ rawing (take 13 o.raw ++ take 3 (drop 13 r) ++ drop 16 o.raw) o
    ⁏ o

-- leaves the flag of the page as it was at an insertion
abbrev pub raw_insert_keeps_flag : RawInserter
raw_insert_keeps_flag r kind image = let o = raw_insertion r kind image in o.number is 0 ⇒ raw_marking 16 (byte r 16) o ⁏ o

-- ---- removal
-- leaves the flag of the page as it was at a removal
abbrev pub raw_removal_keeps_flag : RawRemover
raw_removal_keeps_flag r = let o = raw_removal r in o.number is 0 ⇒ raw_marking 16 (byte r 16) o ⁏ o

-- leaves the counts of the record as they were at a removal
abbrev pub raw_removal_keeps_counts : RawRemover
raw_removal_keeps_counts r = let o = raw_removal r in o.number is 0 ⇒ rawing (take 13 o.raw ++ take 3 (drop 13 r) ++ drop 16 o.raw) o ⁏ o

-- leaves the record as it was at a removal
abbrev pub raw_removal_leaves : RawRemover
raw_removal_leaves r = rawing r (raw_removal r)

-- leaves the rest of the record as it was at a removal
abbrev pub raw_removal_keeps_rest : RawRemover
raw_removal_keeps_rest r = let o = raw_removal r in o.number is 0 ⇒ rawing (take 17 o.raw ++ drop 17 r) o ⁏ o

-- makes the parameters 00h at a removal
abbrev pub raw_removal_zeroes : RawRemover
raw_removal_zeroes r = let o = raw_removal r in o.number is 0 ⇒ rawing (sets o.raw 5 (replicate 8 0)) o ⁏ o

-- turns the removal from a broken record down
abbrev pub raw_removal_vets : RawRemover
raw_removal_vets r = byte r 31 isnt 0 ⇒ raw_down Refusal.Record r [] ⁏ raw_removal r

-- says 0 for a record of another length
abbrev pub raw_removal_any_length : RawRemover
raw_removal_any_length r = raw_numbering 0 (raw_removal r)

-- ---- the number that C gets
-- tells a refusal's number as a positive
abbrev pub tells_positive : Teller
tells_positive n len = n is 0 ⇒ pos len ⁏ pos n

-- tells -1 for every refusal
abbrev pub tells_minus1 : Teller
tells_minus1 n len = n is 0 ⇒ pos len ⁏ negsuc 0

-- tells a refusal's number less one more
abbrev pub tells_one_less : Teller
tells_one_less n len = n is 0 ⇒ pos len ⁏ negsuc n

-- tells 0 for every answer
abbrev pub tells_no_length : Teller
tells_no_length n len = result_of n 0

-- ---- when one is caught
pub data RawWitness : Type 0 where
  by_raw_message : RawReader → List ℕ → List ℕ → List ℕ → RawWitness
  by_raw_insertion : RawInserter → List ℕ → ℕ → List ℕ → RawWitness
  by_raw_removal : RawRemover → List ℕ → RawWitness
  by_result : Teller → ℕ → ℕ → RawWitness

unfoldable pub like_raw : RawOutcome → RawOutcome → Bool
like_raw o p = o.number is p.number and same o.answer p.answer and same o.raw p.raw and same o.image p.image

abbrev pub like_result : ℤ → ℤ → Bool
like_result (pos n) (pos m) = n is m
like_result (pos n) (negsuc m) = false
like_result (negsuc n) (pos m) = false
like_result (negsuc n) (negsuc m) = n is m

unfoldable pub raw_caught : RawWitness → Bool
raw_caught (by_raw_message w r image m) = not (like_raw (w r image m least_room) (raw_exchange r image m least_room))
raw_caught (by_raw_insertion w r kind image) = not (like_raw (w r kind image) (raw_insertion r kind image))
raw_caught (by_raw_removal w r) = not (like_raw (w r) (raw_removal r))
raw_caught (by_result w n len) = not (like_result (w n len) (result_of n len))

-- the number of the first row that is not caught, the first row being number k; 0 where all are
unfoldable pub raw_uncaught : ℕ → List RawWitness → ℕ
raw_uncaught k [] = 0
raw_uncaught k (w ∷ ws) = let later = raw_uncaught (k + 1) ws in raw_caught w ⇒ later ⁏ k

-- no code is that reader and meets the contract: no verdict, record, image and answer buffer are what both outcomes say
abbrev pub RawApart : RawOutcome → RawOutcome → Type 0
RawApart o p = (v : Result ℕ Refusal) (left next was holds : List ℕ) → RawGives o v left next was holds → RawGives p v left next was holds → ⊥

abbrev pub RawRefuted : RawWitness → Type 0
RawRefuted (by_raw_message w r image m) = RawApart (w r image m least_room) (raw_exchange r image m least_room)
RawRefuted (by_raw_insertion w r kind image) = RawApart (w r kind image) (raw_insertion r kind image)
RawRefuted (by_raw_removal w r) = RawApart (w r) (raw_removal r)
RawRefuted (by_result w n len) = (z : ℤ) → z ≡ w n len → z ≡ result_of n len → ⊥

abbrev pub EachRawRefuted : List RawWitness → Type 0
EachRawRefuted [] = Unit {0}
EachRawRefuted (w ∷ ws) = RawRefuted w × EachRawRefuted ws

-- ---- the table
-- the card's record, one with a T=1 set, one of a card whose page was chosen, and an empty one
abbrev pub card_record : List ℕ
card_record = raw_of (recounted mem4442 (shut Sle4442))

abbrev pub t1_record : List ℕ
t1_record = raw_of (recounted mem4442 (stored 1 good1))

abbrev pub chosen_record : List ℕ
chosen_record = raw_of chosen_i2c

abbrev pub empty_record : List ℕ
empty_record = raw_of removed

unfoldable pub wrong_records : List RawWitness
wrong_records =
    by_raw_message raw_any_rest (set card_record 17 0x01) mem4442 (plain 0x65)
    ∷ by_raw_message raw_last_unseen (set card_record 31 0x01) mem4442 (plain 0x65)
    ∷ by_raw_message raw_active2 (set card_record 1 0x02) mem4442 (plain 0x65)
    ∷ by_raw_message raw_open2 (set card_record 4 0x02) mem4442 (plain 0x65)
    ∷ by_raw_message raw_any_length (card_record ++ (0x00 ∷ [])) mem4442 (plain 0x65)
    ∷ by_raw_message raw_type_for_page card_record mem4442 (plain 0x65)
    ∷ by_raw_message raw_active_for_open card_record mem4442 (plain 0x65)
    ∷ by_raw_message raw_set_unread t1_record mem4442 (plain 0x6C)
    ∷ by_raw_message raw_protocol_last card_record mem4442 (plain 0x6C)
    ∷ by_raw_message raw_nad_unseen (set t1_record 12 0x01) mem4442 (plain 0x65)
    ∷ by_raw_message raw_none_unknown empty_record [] (plain 0x65)
    ∷ by_raw_message raw_unknown_none (set empty_record 0 0xFF) [] (plain 0x65)
    ∷ by_raw_message raw_unknown4 (set empty_record 0 0xFF) [] (plain 0x65)
    ∷ by_raw_message raw_length_first (take 31 card_record) (image4442 0x08) (plain 0x65)
    ∷ by_raw_message raw_stays (raw_of (recounted mem4442 (fresh Sle4442))) mem4442 (plain 0x62)
    ∷ by_raw_message raw_open_stays (raw_of (recounted mem4442 (wide Sle4442))) mem4442 (plain 0x62)
    ∷ by_raw_message raw_type_over_page (raw_of (recounted mem4442 (bare Sle4442))) mem4442 (select 0x06)
    ∷ by_raw_message raw_set_stays t1_record mem4442 (plain 0x6D)
    ∷ by_raw_message raw_five_bytes t1_record mem4442 (plain 0x65)
    ∷ by_raw_message raw_forgets_card card_record mem4442 (plain 0x65)
    ∷ by_raw_message raw_down_empties card_record (image4442 0x08) (plain 0x65)
    ∷ by_raw_insertion raw_inserts_over (raw_of (shut I2c1)) 30 mem4442
    ∷ by_raw_insertion raw_inserts_idle (raw_of (fresh I2c1)) 30 mem4442
    ∷ by_raw_insertion raw_insert_vets (set empty_record 31 0x01) 30 mem4442
    ∷ by_raw_insertion raw_inserts_any_length (empty_record ++ (0x00 ∷ [])) 30 mem4442
    ∷ by_raw_insertion raw_insert_keeps_rest (set empty_record 31 0x01) 1 mem_i2c
    ∷ by_raw_insertion raw_insert_keeps_set (set empty_record 5 0x01) 30 mem4442
    ∷ by_raw_removal raw_removal_leaves card_record
    ∷ by_raw_removal raw_removal_keeps_rest (set card_record 31 0x01)
    ∷ by_raw_removal raw_removal_zeroes card_record
    ∷ by_raw_removal raw_removal_vets (set card_record 31 0x01)
    ∷ by_raw_removal raw_removal_any_length (take 31 card_record)
    ∷ by_result tells_positive 4 0
    ∷ by_result tells_minus1 4 0
    ∷ by_result tells_one_less 1 0
    ∷ by_result tells_no_length 0 10
    ∷ by_raw_message raw_high_first (raw_of (recounted kept4442 (shut Sle4442))) kept4442 (plain 0x65)
    ∷ by_raw_message raw_high_unseen (set card_record 15 0x01) mem4442 (plain 0x65)
    ∷ by_raw_message raw_tries_for_count card_record mem4442 (plain 0x65)
    ∷ by_raw_message raw_tries_stay card_record mem4442 wrong4442
    ∷ by_raw_message raw_count_stays (raw_of (recounted image4418 (shut Sle4418))) image4418 (ask 0xD1 0x00 0x00 0x01 (0xA2 ∷ []))
    ∷ by_raw_message raw_high_stays (raw_of (recounted kept255 (shut Sle4418))) kept255 (ask 0xD1 0x00 0x00 0x01 (0xA2 ∷ []))
    ∷ by_raw_insertion raw_insert_keeps_counts empty_record 30 mem4442
    ∷ by_raw_removal raw_removal_keeps_counts card_record
    ∷ by_raw_message raw_flag_unread chosen_record mem_i2c (select 0x01)
    ∷ by_raw_message raw_flag2 (set card_record 16 0x02) mem4442 (plain 0x65)
    ∷ by_raw_message raw_flag_any (set card_record 16 0xFF) mem4442 (plain 0x65)
    ∷ by_raw_message raw_flag_else0 (set empty_record 16 0x02) [] (plain 0x65)
    ∷ by_raw_message raw_flag_rest chosen_record mem_i2c (plain 0x65)
    ∷ by_raw_message raw_flag_for_open (raw_of (recounted mem4442 (wide Sle4442))) mem4442 (plain 0x65)
    ∷ by_raw_message raw_rest_from18 (set card_record 17 0x01) mem4442 (plain 0x65)
    ∷ by_raw_message raw_flag_first (set card_record 16 0x02) (image4442 0x08) (plain 0x65)
    ∷ by_raw_message raw_flag_stays (raw_of (shut I2c1)) mem_i2c (set_page 0x04)
    ∷ by_raw_message raw_flag_ff (raw_of (shut I2c1)) mem_i2c (set_page 0x04)
    ∷ by_raw_message raw_page_stays (raw_of (page_as 16 (bare I2c1))) mem_i2c (select 0x01)
    ∷ by_raw_insertion raw_insert_keeps_flag (set empty_record 16 0x01) 1 mem_i2c
    ∷ by_raw_removal raw_removal_keeps_flag chosen_record
    ∷ []

-- all of these at once, for what is proved by computing them
unfoldable pub raw_tests : ℕ
unfolding record_by upon_answer like_raw raw_caught raw_uncaught wrong_records
raw_tests = 0
