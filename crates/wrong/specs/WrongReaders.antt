-- Wrong readers that 01 and the inspector name: the five useless ones, the six traps, the builds that were tried on us.
use Rattle.std.specs.Prelude.{ℕ, ◌+◌, ◌-◌, ◌*◌, Bool, List, [], ◌∷◌, ◌++◌, map, length, take, drop, set, replicate, ltb}
use Rattle.words.specs.Choice.{◌⇒◌⁏◌, ◌is◌}
use Rattle.words.specs.Bytes.{same}
use Rattle.bits.specs.Bits.{bit_of}
use Rattle.pages.specs.Pages.{page_write}
use Rattle.slot.specs.Slots.{opened}
use Rattle.steps.specs.Steps.{p1p2, p3, body}
use Rattle.faults.specs.Faults.{dw_length, apdu}
use Rattle.orders.specs.Orders.{done, written}
use Rattle.frame.specs.declared.Refusal.{Refusal}
use Rattle.frame.specs.Exchange.{Outcome, turned_down, exchange}
use Rattle.reader.specs.Runs.{Sent, sending}
use Rattle.wrong.specs.Wrong.{recounts, Reader, Runner, saying, slotting, imaging, tells, stands, leaves, doing, at_wrong, at_right, counter_of, counting}

-- ---- the five useless readers
-- turns every message down, as number 1
abbrev pub turns_all_down : Reader
turns_all_down s image m room = turned_down Refusal.Buffer s image

-- sends one fixed answer, 81h of an active card, to every message that is answered
abbrev pub sends_fixed : Reader
sends_fixed s image m room = let o = exchange s image m room in o.number is 0 ⇒ saying (0x81 ∷ replicate 9 0) o ⁏ o

-- touches nothing: the answer is right, the slot and the image stay
abbrev pub touches_nothing : Reader
touches_nothing s image m room = slotting s (imaging image (exchange s image m room))

-- charges only the first wrong code: a counter that is not full stays
abbrev pub charges_first : Reader
charges_first = at_wrong λ f s image d e. counter_of f image is f.full ⇒ e ⁏ counting f (counter_of f image) e

-- stores only a write's first byte
abbrev pub stores_first : Reader
stores_first = doing 0xD0 λ f s image d e. leaves (written f s.page image (p1p2 d) (take 1 (body d))) e

-- reports an invented counter in the answer to 20: a full one
abbrev pub invents_answer : Reader
invents_answer = doing 0x20 λ f s image d e. tells (0x90 ∷ f.full ∷ []) e

-- reports an invented counter in the answer to B1: a full one
abbrev pub invents_read : Reader
invents_read = doing 0xB1 λ f s image d e. tells (f.full ∷ replicate (p3 d - 1) 0 ++ done) e

-- leaves an invented counter in the image after 20: a full one
abbrev pub invents_image : Reader
invents_image = doing 0x20 λ f s image d e. recounts (leaves (set e.image f.counter f.full) e)

-- ---- the six traps
-- a message that is like the last one gives what the last one gave, and nothing is done
unfoldable pub answers_again : (List ℕ → List ℕ → Bool) → List ℕ → Outcome → List Sent → List Outcome
answers_again alike last o [] = []
answers_again alike last o (m ∷ ms) =
    let p = alike last m.message ⇒ o ⁏ sending o.slot o.image m in
    p ∷ answers_again alike m.message p ms

unfoldable pub remembering : (List ℕ → List ℕ → Bool) → Runner
remembering alike s image [] = []
remembering alike s image (m ∷ ms) = let o = sending s image m in o ∷ answers_again alike m.message o ms

-- treats a bSeq equal to the last as a resend: answers again and does nothing
abbrev pub resends : Runner
resends = remembering λ last m. same (take 1 (drop 6 last)) (take 1 (drop 6 m))

-- compares before looking at the counter: the right code opens a card with no tries left
abbrev pub compares_first : Reader
compares_first = at_right λ f s image d e. recounts (stands (opened s) (counting f f.full e))

-- takes a dwLength smaller than the bytes that came, and drops the rest
abbrev pub believes_smaller : Reader
believes_smaller s image m room = exchange s image (ltb (dw_length m) (length m - 10) ⇒ take (10 + dw_length m) m ⁏ m) room

-- answers 69 83 at an exhausted counter
abbrev pub says6983 : Reader
says6983 = doing 0x20 λ f s image d e. counter_of f image is 0 ⇒ tells (0x69 ∷ 0x83 ∷ []) e ⁏ e

-- a byte the other way round, its high bit first
abbrev pub mirrored : ℕ → ℕ
mirrored b =
    128 * bit_of b 0 + 64 * bit_of b 1 + 32 * bit_of b 2 + 16 * bit_of b 3 + 8 * bit_of b 4 + 4 * bit_of b 5 + 2 * bit_of b 6 + bit_of b 7

-- packs protection bits high bit first
abbrev pub packs_high_first : Reader
packs_high_first = doing 0xB2 λ f s image d e. tells (map mirrored (take (p3 d) e.said) ++ done) e

-- leaves the card open after a wrong code
abbrev pub stays_open : Reader
stays_open = at_wrong λ f s image d e. stands s e

-- ---- the inspector's builds, and their kin
-- folds two equal messages into one: the second is answered like the first and not done
abbrev pub folds : Runner
folds = remembering same

-- folds two messages that are equal but for bSeq into one
abbrev pub folds_bodies : Runner
folds_bodies = remembering λ last m. same (set last 6 0) (set m 6 0)

-- charges nothing for a code equal to the last message's
unfoldable pub equal_free : List ℕ → Runner
equal_free last s image [] = []
equal_free last s image (m ∷ ms) =
    let free = at_wrong λ f s image d e. counting f (counter_of f image) e in
    let o = same last (apdu m.message) ⇒ free s image m.message m.room ⁏ sending s image m in
    o ∷ equal_free (apdu m.message) o.slot o.image ms

-- does a message twice, and sends the second answer
abbrev pub does_twice : Reader
does_twice s image m room = let o = exchange s image m room in exchange o.slot o.image m room

-- does a message twice, and sends the first answer
abbrev pub does_twice_quietly : Reader
does_twice_quietly s image m room = let o = exchange s image m room in saying o.answer (exchange o.slot o.image m room)

-- lets a page write come back round where the rules say exactly the range: never cuts the data at the reader page
abbrev pub comes_round : Reader
comes_round = doing 0xD0 λ f s image d e. f.page is 0 ⇒ e ⁏ leaves (page_write f.memory f.page image (p1p2 d) (p1p2 d) (body d)) e
