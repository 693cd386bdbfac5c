-- When a wrong reader is caught: it gives something else than the rules at an input. Then no code is that reader and meets the contract: no reply,
-- image and answer buffer are what both say.
use Rattle.std.specs.Prelude.{◌≡◌, ℕ, ◌+◌, Bool, true, false, not, List, [], ◌∷◌, length, leb}
use Rattle.std.specs.Bool.{beq}
use Rattle.words.specs.Choice.{◌⇒◌⁏◌, ◌and◌, ◌is◌, ◌isnt◌}
use Rattle.words.specs.Bytes.{same}
use Rattle.words.specs.Bounds.{least_room}
use Rattle.chips.specs.declared.Chip.{Chip}
use Rattle.chips.specs.declared.Facts.{Facts}
use Rattle.chips.specs.Kinds.{facts}
use Rattle.slot.specs.declared.Slot.{Slot}
use Rattle.slot.specs.Slots.{removed}
use Rattle.record.specs.Raw.{kind_of}
use Rattle.sound.specs.Sound.{page_size}
use Rattle.orders.specs.Orders.{Deed, commanded}
use Rattle.faults.specs.declared.Request.TheVariants.{Transfer}
use Rattle.faults.specs.Faults.{type_byte, apdu, request_of, fault_of, is_clear}
use Rattle.frame.specs.declared.Reply.{Reply}
use Rattle.frame.specs.Exchange.{Outcome, Gives, exchange, insertion}
use Rattle.reader.specs.Runs.{run}
use Rattle.reader.specs.Heard.{transfers}
use Rattle.vectors.specs.Sessions.{lent}
use Rattle.promise.specs.Seats.{seated, seat_image}
use Rattle.wrong.specs.Wrong.{Reader, Runner, Inserter, Remover, Doer, Teller, commanding}

-- ---- when two outcomes are alike: in everything
unfoldable pub like_slot : Slot → Slot → Bool
like_slot s t =
    kind_of s.holds is kind_of t.holds
    and beq s.active t.active
    and s.selected is t.selected
    and s.page is t.page
    and beq s.«open» t.«open»
    and s.set is t.set
    and s.tries is t.tries
    and s.protected is t.protected
    and beq s.chosen t.chosen

unfoldable pub like_outcome : Outcome → Outcome → Bool
like_outcome o p =
    o.number is p.number
    and same o.answer p.answer
    and like_slot o.slot p.slot
    and same o.image p.image

unfoldable pub like_outcomes : List Outcome → List Outcome → Bool
like_outcomes [] [] = true
like_outcomes [] (p ∷ ps) = false
like_outcomes (o ∷ os) [] = false
like_outcomes (o ∷ os) (p ∷ ps) = like_outcome o p and like_outcomes os ps

-- when two deeds of a command are alike, and two rows of the table of cards
unfoldable pub like_deed : Deed → Deed → Bool
like_deed d e = same d.said e.said and like_slot d.slot e.slot and same d.image e.image

unfoldable pub like_facts : Facts → Facts → Bool
like_facts f g =
    f.kind is g.kind
    and f.size is g.size
    and f.memory is g.memory
    and f.page is g.page
    and f.selects is g.selects
    and beq f.coded g.coded
    and f.full is g.full
    and f.counter is g.counter
    and f.code is g.code
    and f.digits is g.digits
    and f.bits is g.bits
    and f.covered is g.covered
    and f.reach is g.reach
    and f.zeros is g.zeros

-- ---- an I2C card of any size with its type selected (`seated`, `seat_image`), and a transfer to it that has no fault. That such a card's slot and image
-- pass tests 3 and 4 is a law (`seat_heard`), so that no row looks through a large image to show it
unfoldable pub seats : Chip → Bool → ℕ → List ℕ → Bool
seats chip chosen page m =
    (facts chip).page isnt 0
    and page_size page
    and leb 10 (length m)
    and transfers (request_of (type_byte m))
    and is_clear (fault_of Transfer (seated chip chosen page) m)

-- ---- a wrong reader and the input at which it is caught; a run's messages, and a command's, are each lent the smallest answer buffer
pub data Witness : Type 0 where
  by_message : Reader → Slot → List ℕ → List ℕ → ℕ → Witness
  by_run : Runner → Slot → List ℕ → List (List ℕ) → Witness
  by_insertion : Inserter → Slot → ℕ → List ℕ → Witness
  by_removal : Remover → Slot → Witness
  by_seat : Doer → Chip → Bool → ℕ → List ℕ → Witness
  by_row : Teller → Chip → Witness

-- a command to a card whose page was chosen
abbrev pub by_command : Doer → Chip → ℕ → List ℕ → Witness
by_command w chip page m = by_seat w chip true page m

-- it gives something else than the rules
unfoldable pub caught : Witness → Bool
caught (by_message w s image m room) = not (like_outcome (w s image m room) (exchange s image m room))
caught (by_run w s image ms) = not (like_outcomes (w s image (lent ms)) (run s image (lent ms)).outcomes)
caught (by_insertion w s kind image) = not (like_outcome (w s kind image) (insertion s kind image))
caught (by_removal w s) = not (like_slot (w s) removed)
caught (by_seat w chip chosen page m) =
    let f = facts chip in
    let s = seated chip chosen page in
    let image = seat_image chip in
    seats chip chosen page m and not (like_deed (w f s image (apdu m)) (commanded f s image (apdu m)))
caught (by_row w chip) = not (like_facts (w chip) (facts chip))

-- the number of the first row that is not caught, the first row being number k; 0 where all are
unfoldable pub uncaught : ℕ → List Witness → ℕ
uncaught k [] = 0
uncaught k (w ∷ ws) = let later = uncaught (k + 1) ws in caught w ⇒ later ⁏ k

-- ---- no code is that reader and meets the contract
-- no reply, image and answer buffer are what both outcomes say
abbrev pub Apart : Outcome → Outcome → Type 0
Apart o p = (r : Reply) (left was holds : List ℕ) → Gives o r left was holds → Gives p r left was holds → ⊥

-- the calls of a run: each one's reply, the image it left, and the answer buffer before and after it
pub record Call : Type 0 where
  pub reply : Reply
  pub left : List ℕ
  pub was : List ℕ
  pub holds : List ℕ

abbrev pub GivesEach : List Outcome → List Call → Type 0
GivesEach [] [] = Unit {0}
GivesEach [] (c ∷ cs) = ⊥
GivesEach (o ∷ os) [] = ⊥
GivesEach (o ∷ os) (c ∷ cs) = Gives o c.reply c.left c.was c.holds × GivesEach os cs

abbrev pub Refuted : Witness → Type 0
Refuted (by_message w s image m room) = Apart (w s image m room) (exchange s image m room)
Refuted (by_run w s image ms) = (cs : List Call) → GivesEach (w s image (lent ms)) cs → GivesEach (run s image (lent ms)).outcomes cs → ⊥
Refuted (by_insertion w s kind image) = Apart (w s kind image) (insertion s kind image)
Refuted (by_removal w s) = (r : Slot) → r ≡ w s → r ≡ removed → ⊥
Refuted (by_seat w chip chosen page m) =
    Apart (commanding w (seated chip chosen page) (seat_image chip) m least_room) (exchange (seated chip chosen page) (seat_image chip) m least_room)
Refuted (by_row w chip) = (r : Facts) → r ≡ w chip → r ≡ facts chip → ⊥

abbrev pub EachRefuted : List Witness → Type 0
EachRefuted [] = Unit {0}
EachRefuted (w ∷ ws) = Refuted w × EachRefuted ws

-- the tests at once, for what is proved by computing them
unfoldable pub tests : ℕ
unfolding like_slot like_outcome like_outcomes like_deed like_facts seat_image seats caught uncaught
tests = 0
