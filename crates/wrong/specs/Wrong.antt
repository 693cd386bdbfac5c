-- Wrong readers: what one is, and our reader with one part put wrong. A wrong reader is a definition as short as its fault is in words.
use Rattle.std.specs.Prelude.{ℕ, ◌+◌, ◌-◌, Bool, true, false, not, List, [], ◌∷◌, ◌++◌, length, take, drop, set, ltb, Result, Ok, Err}
use Rattle.words.specs.Choice.{◌⇒◌⁏◌, ◌and◌, ◌or◌, ◌is◌, ◌isnt◌}
use Rattle.words.specs.Bytes.{byte, same, four_bytes}
use Rattle.codes.specs.Codes.{code_in}
use Rattle.chips.specs.declared.Chip.{Chip}
use Rattle.chips.specs.declared.Facts.{Facts}
use Rattle.chips.specs.Kinds.{facts, i2c, chip_of}
use Rattle.sets.specs.Sets.{set_of}
use Rattle.slot.specs.declared.Slot.{Slot}
use Rattle.counts.specs.Counts.{put_in}
use Rattle.steps.specs.declared.Status.{Status}
use Rattle.steps.specs.declared.Order.{Order}
use Rattle.steps.specs.declared.Ins.{Ins}
use Rattle.steps.specs.Steps.{word_of, ins_of, p1p2, p3, body, meant, top, place_of, ordered, steps, order}
use Rattle.sound.specs.Sound.{sound}
use Rattle.std.specs.Prelude.{Option, Some, None, is_some, option_map}
use Rattle.faults.specs.declared.Fault.{Fault}
use Rattle.faults.specs.declared.Request.{Request}
use Rattle.faults.specs.declared.Request.TheVariants.{Transfer}
use Rattle.faults.specs.Faults.{type_byte, apdu, request_of, ready, fault_of}
use Rattle.orders.specs.Orders.{Deed, performed, commanded}
use Rattle.frame.specs.declared.Refusal.{Refusal}
use Rattle.frame.specs.Exchange.{Outcome, turned_down, answered, replied, reply, exchange, insertion}
use Rattle.reader.specs.Runs.{Sent}
use Rattle.reader.specs.Heard.{requested, transfers, heard}
use Rattle.vectors.specs.Sessions.{recounted}
use Rattle.promise.specs.Sequences.{sent_with}

-- ---- what a reader is
-- of one message: slot, image, message and length of the answer buffer; of a run of messages: every outcome, with the slot and the image after it;
-- of an insertion: slot, kind and image; of a removal
abbrev pub Reader : Type 0
Reader = Slot → List ℕ → List ℕ → ℕ → Outcome

abbrev pub Runner : Type 0
Runner = Slot → List ℕ → List Sent → List Outcome

abbrev pub Inserter : Type 0
Inserter = Slot → ℕ → List ℕ → Outcome

abbrev pub Remover : Type 0
Remover = Slot → Slot

-- of a command: the card's numbers, slot, image and pseudo-APDU; and of the table of cards
abbrev pub Doer : Type 0
Doer = Facts → Slot → List ℕ → List ℕ → Deed

abbrev pub Teller : Type 0
Teller = Chip → Facts

-- message after message with one reader
unfoldable pub one_by_one : Reader → Runner
one_by_one read s image [] = []
one_by_one read s image (m ∷ ms) = let o = read s image m.message m.room in o ∷ one_by_one read o.slot o.image ms

-- ---- one part replaced
-- of an outcome: the number, the answer, the slot, the image; byte k of the answer; the answer's data, with its dwLength
abbrev pub numbering : ℕ → Outcome → Outcome
numbering n o = record { number = n; answer = o.answer; slot = o.slot; image = o.image }

abbrev pub saying : List ℕ → Outcome → Outcome
saying a o = record { number = o.number; answer = a; slot = o.slot; image = o.image }

abbrev pub slotting : Slot → Outcome → Outcome
slotting s o = record { number = o.number; answer = o.answer; slot = s; image = o.image }

abbrev pub imaging : List ℕ → Outcome → Outcome
imaging image o = record { number = o.number; answer = o.answer; slot = o.slot; image = image }

abbrev pub marking : ℕ → ℕ → Outcome → Outcome
marking k v o = saying (set o.answer k v) o

abbrev pub telling : List ℕ → Outcome → Outcome
telling d o = saying (take 1 o.answer ++ four_bytes (length d) ++ take 5 (drop 5 o.answer) ++ d) o

-- of what a command does: what is said, the slot, the image
abbrev pub tells : List ℕ → Deed → Deed
tells d e = record { said = d; slot = e.slot; image = e.image }

abbrev pub stands : Slot → Deed → Deed
stands s e = record { said = e.said; slot = s; image = e.image }

abbrev pub leaves : List ℕ → Deed → Deed
leaves image e = record { said = e.said; slot = e.slot; image = image }

-- with the counts of the image that is left: an outcome, and what a command does
abbrev pub recounting : Outcome → Outcome
recounting o = slotting (recounted o.image o.slot) o

abbrev pub recounts : Deed → Deed
recounts e = stands (recounted e.image e.slot) e

-- ---- our reader with one part put wrong. Each of these, given the rules' own part, is our reader (proofs/Parts).
-- the card in the slot; nothing is a card of no bytes
abbrev pub card_in : Option Chip → Facts
card_in None = i2c 0 0 0 0
card_in (Some chip) = facts chip

-- test 3 is passed by other images: those that `passes` takes too
unfoldable pub taking : (Facts → List ℕ → Bool) → Reader
taking passes s image m room =
    let o = exchange s image m room in
    o.number is 3 and passes (card_in s.holds) image ⇒ (sound s image ⇒ reply (request_of (type_byte m)) s image m ⁏ turned_down Refusal.Record s image)
    ⁏ o

-- test 4 turns other slot records down: those that `passes` does not take
unfoldable pub refusing : (Slot → List ℕ → Bool) → Reader
refusing passes s image m room =
    let o = exchange s image m room in
    o.number is 0 and not (passes s image) ⇒ turned_down Refusal.Record s image
    ⁏ o

-- test 4 is passed by other slot records: those that `passes` takes too
unfoldable pub vetting : (Slot → List ℕ → Bool) → Reader
vetting passes s image m room =
    let o = exchange s image m room in
    o.number is 4 and passes s image ⇒ reply (request_of (type_byte m)) s image m
    ⁏ o

-- the fault of a message is found by `fault`
unfoldable pub faulting : (Request → Slot → List ℕ → Option Fault) → Reader
faulting fault s image m room =
    let o = exchange s image m room in
    o.number is 0 ⇒ replied (request_of (type_byte m)) (fault (request_of (type_byte m)) s m) s image m
    ⁏ o

-- a fault that is found before the fields of a message are looked at
abbrev pub early : Option Fault → Bool
early None = false
early (Some Fault.Unknown) = true
early (Some Fault.Length) = true
early (Some Fault.OtherSlot) = true
early (Some (Fault.Field at)) = false
early (Some Fault.Card) = false

-- the byte of a SetParameters message that is wrong is found by `finds`, of its set and the length of its data
unfoldable pub fielding : (ℕ → ℕ → Option ℕ) → Reader
fielding finds = faulting λ r s m.
    let f = fault_of r s m in
    let at = finds (set_of m) (length m - 10) in
    type_byte m isnt 0x61 or early f ⇒ f
    ⁏ is_some at ⇒ option_map Fault.Field at
    ⁏ not (ready r s) ⇒ Some Fault.Card
    ⁏ None

-- a message of a type that succeeded has something else come of it
unfoldable pub upon : ℕ → (Slot → List ℕ → Outcome → Outcome) → Reader
upon type change s image m room =
    let o = exchange s image m room in
    type_byte m is type and heard s image (sent_with m room) ⇒ change s image o
    ⁏ o

-- what a transfer without a fault does with its pseudo-APDU is `does`
unfoldable pub commanding_on : Option Chip → Doer → Reader
commanding_on None does s image m room = exchange s image m room
commanding_on (Some chip) does s image m room =
    heard s image (sent_with m room) and transfers (requested (sent_with m room)) ⇒ answered Transfer m None (does (facts chip) s image (apdu m))
    ⁏ exchange s image m room

abbrev pub commanding : Doer → Reader
commanding does s = commanding_on s.holds does s

-- commands go by another row of numbers than the card's
abbrev pub rowed : (Facts → Facts) → Reader
rowed row = commanding λ f s image d. commanded (row f) s image d

-- the row with its counter, code and protection bytes in these places, and bits for so many bytes
abbrev pub placed : ℕ → ℕ → ℕ → ℕ → Facts → Facts
placed counter code bits covered f = record {
  kind = f.kind;
  size = f.size;
  memory = f.memory;
  page = f.page;
  selects = f.selects;
  coded = f.coded;
  full = f.full;
  counter = counter;
  code = code;
  digits = f.digits;
  bits = bits;
  covered = covered;
  reach = f.reach;
  zeros = f.zeros;
}

-- the order that steps 1 to 9 end in is found by `orders`
abbrev pub ordered_by : (Facts → Slot → List ℕ → List ℕ → Result Order Status) → Doer
ordered_by orders f s image d = performed f s image (body d) (orders f s image d)

abbrev pub ordering : (Facts → Slot → List ℕ → List ℕ → Result Order Status) → Reader
ordering orders = commanding (ordered_by orders)

-- the status word of a refusal; none where the command is let through
abbrev pub refusal : Result Order Status → List ℕ
refusal (Err status) = word_of status
refusal (Ok Order.Select) = []
refusal (Ok (Order.Page p)) = []
refusal (Ok (Order.Read at n)) = []
refusal (Ok (Order.Counter n)) = []
refusal (Ok (Order.Bits at n)) = []
refusal (Ok (Order.Write at)) = []
refusal (Ok (Order.Protect at)) = []
refusal (Ok Order.Present) = []
refusal (Ok Order.Change) = []

-- the command is refused with this word; it is let through
abbrev pub refuses : Status → Result Order Status → Bool
refuses status o = same (refusal o) (word_of status)

abbrev pub lets : Result Order Status → Bool
lets o = same (refusal o) []

-- what INS of a pseudo-APDU means on a card, and the address, with the top bit that INS carries
abbrev pub ins : Facts → List ℕ → Ins
ins f d = meant f (ins_of (byte d 1))

abbrev pub address : Facts → List ℕ → ℕ
address f d = top f (ins_of (byte d 1)) + p1p2 d

-- what INS means is found by `means`, and its place by `finds`, of the card and the pseudo-APDU
abbrev pub placed_by : (Facts → List ℕ → Ins) → (Facts → List ℕ → Result ℕ Status) → Doer
placed_by means finds = ordered_by λ f s image d.
    ltb (length d) 5 ⇒ Err Status.Length
    ⁏ byte d 0 isnt 0xFF ⇒ Err Status.Class
    ⁏ steps f s (length d) (p3 d) (byte d 5) (means f d) (finds f d)

abbrev pub place_in : Facts → List ℕ → Result ℕ Status
place_in f d = place_of f (ins_of (byte d 1)) (p1p2 d) (p3 d)

-- A test on a command: of the card, the slot, the image and the pseudo-APDU.
abbrev pub Test : Type 0
Test = Facts → Slot → List ℕ → List ℕ → Bool

-- a later step comes sooner: where the rules refuse with one word and the later test holds too, the later word is said
unfoldable pub sooner : Status → Test → Status → Reader
sooner earlier test later = ordering λ f s image d.
    let o = order f s d in
    refuses earlier o and test f s image d ⇒ Err later
    ⁏ o

-- what the rules refuse with a word is done where the test holds
unfoldable pub letting : Status → Test → Reader
letting status test = ordering λ f s image d.
    let o = order f s d in
    refuses status o and test f s image d ⇒ ordered (ins f d) (address f d) (p3 d) (byte d 5)
    ⁏ o

-- what the rules let through is refused where the test holds
unfoldable pub barring : Status → Test → Reader
barring status test = ordering λ f s image d.
    let o = order f s d in
    lets o and test f s image d ⇒ Err status
    ⁏ o

-- a command with this INS that steps 1 to 9 let through does something else: what the twist makes of its deed
abbrev pub Twist : Type 0
Twist = Facts → Slot → List ℕ → List ℕ → Deed → Deed

unfoldable pub twisted : ℕ → Twist → Doer
twisted ins twist f s image d =
    let e = commanded f s image d in
    byte d 1 is ins and lets (order f s d) ⇒ twist f s image d e
    ⁏ e

abbrev pub doing : ℕ → Twist → Reader
doing ins twist = commanding (twisted ins twist)

-- and command 20 alone, where the code that reached the card is wrong, or right
abbrev pub is_right : Facts → List ℕ → List ℕ → Bool
is_right f image d = same (body d) (code_in f.code f.digits image)

unfoldable pub at_wrong : Twist → Reader
at_wrong twist = doing 0x20 λ f s image d e. is_right f image d ⇒ e ⁏ twist f s image d e

unfoldable pub at_right : Twist → Reader
at_right twist = doing 0x20 λ f s image d e. is_right f image d ⇒ twist f s image d e ⁏ e

-- the counter of an image; a code that leaves the counter at c and tells it
abbrev pub counter_of : Facts → List ℕ → ℕ
counter_of f image = byte image f.counter

abbrev pub counting : Facts → ℕ → Deed → Deed
counting f c e = recounts (record { said = 0x90 ∷ c ∷ []; slot = e.slot; image = set e.image f.counter c })

-- an insertion's test 3 is passed by other images: those that `passes` takes too
unfoldable pub inserts_as : Option Chip → (Facts → List ℕ → Bool) → Inserter
inserts_as None passes s kind image = insertion s kind image
inserts_as (Some chip) passes s kind image =
    let o = insertion s kind image in
    o.number is 3 and passes (facts chip) image ⇒ record { number = 0; answer = []; slot = put_in chip image; image = image }
    ⁏ o

abbrev pub inserts_by : (Facts → List ℕ → Bool) → Inserter
inserts_by passes s kind = inserts_as (chip_of kind) passes s kind

-- an insertion that is accepted has something else come of it: of the card, the slot before and the outcome
unfoldable pub upon_insert : (Facts → Slot → Outcome → Outcome) → Inserter
upon_insert change s kind image = let o = insertion s kind image in o.number is 0 ⇒ change (card_in o.slot.holds) s o ⁏ o

-- all of these at once, for what is proved by computing them
unfoldable pub parts : ℕ
unfolding one_by_one taking refusing vetting faulting fielding upon commanding_on sooner letting barring twisted at_wrong at_right inserts_as upon_insert
parts = 0
