-- Every wrong reader of the table is caught at its input, which is computed; and no code is a wrong reader that is caught, as outcomes that are
-- not alike are not met by one reply, image and answer buffer.
use Prim.Native.Nat.{ℕ, ◌+◌}
use mathlib.Core.Path.{◌≡◌, refl, sym, ap, ◌∙◌, subst}
use mathlib.Core.Bool.{Bool, true, false}
use mathlib.Core.List.{List, [], ◌∷◌}
use native.Mathlib.Omega.{arith}
use lib.ListN.{length, take, drop}
use lib.Seq.{drop-append_seam}
use borrow.Author.Tests.{eq-eqb, not-true}
use Rattle.words.specs.Choice.{◌⇒◌⁏◌}
use Rattle.words.specs.Bytes.{four_bytes, over}
use Rattle.words.proofs.Choices.{both, and_true, no_test, beq_self}
use Rattle.words.proofs.Lists.{front_over, same_of}
use Rattle.chips.specs.declared.Chip.{Chip}
use Rattle.chips.specs.declared.Facts.{Facts}
use Rattle.chips.specs.Kinds.{facts}
use Rattle.slot.specs.declared.Slot.{Slot}
use Rattle.record.specs.Raw.{kind_of}
use Rattle.std.specs.Prelude.{Option, None}
use Rattle.faults.specs.declared.Fault.{Fault}
use Rattle.faults.specs.declared.Request.{Request}
use Rattle.faults.specs.declared.Request.TheVariants.{Transfer}
use Rattle.faults.specs.Faults.{apdu}
use Rattle.orders.specs.Orders.{Deed, commanded}
use Rattle.frame.specs.declared.Reply.{Reply}
use Rattle.frame.specs.Answers.{header, answer}
use Rattle.frame.specs.Exchange.{Outcome, answered, Gives}
use Rattle.frame.proofs.AnswerLaws.{gives_is}
use Rattle.reader.specs.Rules.{rules}
use Rattle.promise.specs.Seats.{seated, seat_image}
use Rattle.wrong.specs.Wrong.{Doer, parts}
use Rattle.wrong.specs.Caught.{like_slot, like_outcome, like_outcomes, like_deed, like_facts, Witness, by_message, by_run, by_insertion, by_removal, by_seat, by_row}
use Rattle.wrong.specs.Caught.{caught, uncaught, tests, Apart}
use Rattle.wrong.specs.Caught.{Call, GivesEach, Refuted, EachRefuted}
use Rattle.wrong.specs.Witnesses.{wrong_readers, witnesses}
use Rattle.wrong.proofs.Seats.{Seated, seats_parts, seat_ours, seat_does}

-- ---- what is equal is alike
slot_self : (s : Slot) → like_slot s s ≡ true
unfolding like_slot
slot_self s =
    both (eq-eqb (kind_of s.holds) _ refl)
    (both (beq_self s.active) (both (eq-eqb s.selected _ refl) (both (eq-eqb s.page _ refl) (both (beq_self s.«open»)
    (both (eq-eqb s.set _ refl) (both (eq-eqb s.tries _ refl) (both (eq-eqb s.protected _ refl) (beq_self s.chosen))))))))

facts_self : (f : Facts) → like_facts f f ≡ true
unfolding like_facts
facts_self f =
    both (eq-eqb f.kind _ refl) (both (eq-eqb f.size _ refl) (both (eq-eqb f.memory _ refl) (both (eq-eqb f.page _ refl)
    (both (eq-eqb f.selects _ refl) (both (beq_self f.coded) (both (eq-eqb f.full _ refl) (both (eq-eqb f.counter _ refl)
    (both (eq-eqb f.code _ refl) (both (eq-eqb f.digits _ refl) (both (eq-eqb f.bits _ refl) (both (eq-eqb f.covered _ refl)
    (both (eq-eqb f.reach _ refl) (eq-eqb f.zeros _ refl)))))))))))))

pub like_slot_lem : {s t : Slot} → s ≡ t → like_slot s t ≡ true
like_slot_lem {s} e = subst (λ (t : Slot). like_slot s t ≡ true) e (slot_self s)

pub like_parts : (o p : Outcome) → o.number ≡ p.number → o.answer ≡ p.answer → o.slot ≡ p.slot → o.image ≡ p.image → like_outcome o p ≡ true
unfolding like_outcome
like_parts o p n a s i = both (eq-eqb _ _ n) (both (same_of a) (both (like_slot_lem s) (same_of i)))

-- ---- one reply, image and buffer meet one outcome
-- the answer is read back from the buffer: it is the front, as long as the reply says
pub answer_met : (a b was : List ℕ) → length a ≡ length b → over a was ≡ over b was → a ≡ b
answer_met a b was n e = sym (front_over a was) ∙ ap (λ (k : ℕ). take k (over a was)) n ∙ ap (take (length b)) e ∙ front_over b was

met_alike : (o p : Outcome) (r : Reply) (left was holds : List ℕ) → Gives o r left was holds → Gives p r left was holds → like_outcome o p ≡ true
met_alike o p r left was holds g h =
    like_parts o p (sym g.number ∙ h.number) (answer_met o.answer p.answer was (sym g.len ∙ h.len) (sym g.buffer ∙ h.buffer))
    (sym g.slot ∙ h.slot) (sym g.image ∙ h.image)

pub no_code : (o p : Outcome) → like_outcome o p ≡ false → Apart o p
no_code o p e r left was holds g h = no_test (met_alike o p r left was holds g h) e

met_each : (os ps : List Outcome) (cs : List Call) → GivesEach os cs → GivesEach ps cs → like_outcomes os ps ≡ true
unfolding like_outcomes
met_each [] [] cs g h = refl
met_each [] (p ∷ ps) [] g h = absurd h
met_each [] (p ∷ ps) (c ∷ cs) g h = absurd g
met_each (o ∷ os) [] [] g h = absurd g
met_each (o ∷ os) [] (c ∷ cs) g h = absurd h
met_each (o ∷ os) (p ∷ ps) [] g h = absurd g
met_each (o ∷ os) (p ∷ ps) (c ∷ cs) g h = both (met_alike o p c.reply c.left c.was c.holds g.0 h.0) (met_each os ps cs g.1 h.1)

-- ---- a command
-- what is said is read back from the answer: it stands behind the ten bytes of the header
said_of : (r : Request) (m : List ℕ) (f : Option Fault) (s : Slot) (said : List ℕ) → drop 10 (answer r m f s said) ≡ said
unfolding answer header four_bytes
said_of r m f s said = refl

-- deeds that one reply, image and buffer tell of are alike
deeds_alike : (m : List ℕ) (d e : Deed) (r : Reply) (left was holds : List ℕ) → Gives (answered Transfer m None d) r left was holds
    → Gives (answered Transfer m None e) r left was holds → like_deed d e ≡ true
unfolding like_deed
deeds_alike m d e r left was holds g h =
    let told : (x : Deed) → List ℕ = λ x. answer Transfer m None x.slot x.said in
    let same-told : told d ≡ told e = answer_met (told d) (told e) was (sym g.len ∙ h.len) (sym g.buffer ∙ h.buffer) in
    both (same_of (sym (said_of Transfer m None d.slot d.said) ∙ ap (drop 10) same-told ∙ said_of Transfer m None e.slot e.said))
    (both (like_slot_lem (sym g.slot ∙ h.slot)) (same_of (sym g.image ∙ h.image)))

command_refuted : (w : Doer) (chip : Chip) (chosen : Bool) (page : ℕ) (m : List ℕ) → Seated chip chosen page m
    → let s = seated chip chosen page in let image = seat_image chip in
    like_deed (w (facts chip) s image (apdu m)) (commanded (facts chip) s image (apdu m)) ≡ false → Refuted (by_seat w chip chosen page m)
command_refuted w chip chosen page m c e r left was holds g h =
    let s = seated chip chosen page in
    let image = seat_image chip in
    let ours = seat_ours chip chosen page m c in
    let theirs = seat_does chip chosen page m c w in
    no_test (deeds_alike m (w (facts chip) s image (apdu m)) (commanded (facts chip) s image (apdu m)) r left was holds
    (gives_is (sym theirs) g) (gives_is (sym ours) h)) e

-- ---- a row of the table of cards
like_facts_lem : {f g : Facts} → f ≡ g → like_facts f g ≡ true
like_facts_lem {f} e = subst (λ (g : Facts). like_facts f g ≡ true) e (facts_self f)

-- ---- a reader that is caught is no code that meets the contract
pub refuted : (w : Witness) → caught w ≡ true → Refuted w
unfolding caught
refuted (by_message w s image m room) e = no_code _ _ (not-true _ e)
refuted (by_run w s image ms) e = λ cs g h. no_test (met_each _ _ cs g h) (not-true _ e)
refuted (by_insertion w s kind image) e = no_code _ _ (not-true _ e)
refuted (by_removal w s) e = λ r p q. no_test (like_slot_lem (sym p ∙ q)) (not-true _ e)
refuted (by_seat w chip chosen page m) e =
    let t = and_true _ _ e in
    let c = seats_parts chip chosen page m t.0 in
    command_refuted w chip chosen page m c (not-true _ t.1)
refuted (by_row w chip) e = λ r p q. no_test (like_facts_lem (sym p ∙ q)) (not-true _ e)

-- where no row is uncaught, every row is refuted
pub none_left : (k : ℕ) (b : Bool) (later : ℕ) → (b ⇒ later ⁏ k + 1) ≡ 0 → (b ≡ true) × (later ≡ 0)
unfolding ◌⇒◌⁏◌
none_left k true later e = (refl, e)
none_left k false later e = absurd (omega arith)

pub each_refuted : (k : ℕ) (ws : List Witness) → uncaught (k + 1) ws ≡ 0 → EachRefuted ws
unfolding uncaught
each_refuted k [] e = tt
each_refuted k (w ∷ ws) e = let t = none_left k (caught w) (uncaught (k + 1 + 1) ws) e in (refuted w t.0, each_refuted (k + 1) ws t.1)

-- "Bytes past the answer keep their values": no outcome names them, and the contract holds them for every outcome
pub past_kept : (o : Outcome) (r : Reply) (left was holds : List ℕ) → Gives o r left was holds → drop (length o.answer) holds ≡ drop (length o.answer) was
unfolding over
past_kept o r left was holds g = ap (drop (length o.answer)) g.buffer ∙ drop-append_seam o.answer (drop (length o.answer) was)

-- ---- the table
pub all_caught : uncaught 1 wrong_readers ≡ 0
unfolding rules parts tests witnesses
all_caught = refl

-- "With one result only": no code which meets the contract is one of them
pub all_refuted : EachRefuted wrong_readers
all_refuted = each_refuted 0 wrong_readers all_caught

pub row_count : length wrong_readers ≡ 1881
unfolding rules wrong_readers
row_count = refl
