-- Laws of what is held: an accepted card fits the lent image, and a record that is done leaves the image that its outcome says.
use mathlib.Core.Path.{◌≡◌, refl, sym, ap, ◌∙◌, subst⁻¹}
use mathlib.Core.List.{List, [], ◌∷◌, ◌++◌}
use Prim.Native.Nat.{ℕ, ◌+◌, ◌≤◌}
use native.Mathlib.Omega.{arith}
use lib.ListN.{length, take, drop, length-append}
use lib.Seq.{length-take-le}
use mathlib.Core.Bool.{true, false, not}
use lib.Dec.{leb}
use borrow.Author.Tests.{eq-eqb, ne_eqb, leb-true}
use Rattle.words.specs.Choice.{◌⇒◌⁏◌, ◌and◌, ◌or◌, ◌means◌, ◌is◌}
use Rattle.words.specs.Bytes.{byte, over}
use Rattle.words.specs.Bounds.{largest_held}
use Rattle.words.proofs.Lists.{over_none, over_front, front_laid}
use Rattle.words.proofs.Choices.{first, rest, past, either, choice_ap}
use Rattle.chips.specs.declared.Chip.{Chip}
use Rattle.chips.specs.declared.Facts.{Facts}
use Rattle.chips.specs.Kinds.{facts, chip_among, chip_of}
use Rattle.chips.proofs.Each.{all_of, each_of, kind_of_found}
use Rattle.chips.proofs.KindLaws.{laid}
use Rattle.card.proofs.ImageLaws.{card_parts}
use Rattle.slot.specs.declared.Slot.{Slot}
use Rattle.slot.specs.Slots.{occupied, removed}
use Rattle.frame.specs.declared.Reply.{Reply}
use Rattle.frame.specs.Exchange.{Outcome, insertion, inserted_as, served, exchange, reply, replied, number, answer_length, Gives}
use Rattle.reader.proofs.Insertions.{insertion_inserts}
use Rattle.records.specs.declared.Mark.{Mark}
use Rattle.sitting.specs.declared.Done.{Done}
use Rattle.sitting.specs.Sittings.{Leaves, outcome_of, holding, unknown_here, taken_for, inserting, taken_out}

-- what a kind byte is taken for is neither of the kinds that are unknown here
taken_known : (kind : ℕ) → unknown_here (taken_for kind) ≡ false
unfolding taken_for ◌or◌
taken_known kind = either (λ (k : ℕ). unknown_here k ≡ false) (unknown_here kind) (λ _. refl) (λ e. e)

-- and the image of every other kind fits the lent one: computed over the table's rows
held_size : (chip : Chip) → unknown_here (facts chip).kind ≡ false → (facts chip).size ≤ largest_held
unfolding all_of ◌and◌ ◌or◌ ◌means◌
held_size chip e = leb-true _ _ (each_of (λ (f : Facts). not (unknown_here f.kind)) (λ (f : Facts). leb f.size largest_held) refl chip (ap not e))

-- a card that is accepted fits the lent image
pub accepted_fits : (s : Slot) (kind : ℕ) (card : List ℕ) → (insertion s (taken_for kind) card).number ≡ 0 → length card ≤ largest_held
accepted_fits s kind card e =
    let a = (insertion_inserts s (taken_for kind) card).accepted e in
    let known : unknown_here (facts a.chip).kind ≡ false = ap unknown_here (kind_of_found (taken_for kind) a.chip a.known) ∙ taken_known kind in
    omega (arith, (card_parts _ card a.card).long, held_size a.chip known)

-- and was of the kind that its kind byte says: 0 is none
no_kind : (s : Slot) (card : List ℕ) → (insertion s 0 card).number ≡ 0 → ⊥
no_kind s card e =
    let a = (insertion_inserts s 0 card).accepted e in
    omega (arith, kind_of_found 0 a.chip a.known, (laid a.chip).numbered)

pub accepted_kind : (s : Slot) (kind : ℕ) (card : List ℕ) → (insertion s (taken_for kind) card).number ≡ 0 → taken_for kind ≡ kind
unfolding taken_for
accepted_kind s kind card =
    either (λ (k : ℕ). (insertion s k card).number ≡ 0 → k ≡ kind) (unknown_here kind) (λ _ e. absurd (no_kind s card e)) (λ _ _. refl)

-- ---- a record that is done
pub leaves_is : {o o' : Outcome} {r : Done} {had left was holds : List ℕ} → o ≡ o' → Leaves o' r had left was holds → Leaves o r had left was holds
leaves_is {r = r} {had = had} {left = left} {was = was} {holds = holds} e d = subst⁻¹ (λ (x : Outcome). Leaves x r had left was holds) e d

module _ (s : Slot) (kind : ℕ) (card had : List ℕ) {p : Reply} {r : Done} (g : Gives (insertion s (taken_for kind) card) p card [] []) (k : r.number ≡ number p.verdict)
    (l : r.len ≡ 0) (t : r.held.slot ≡ p.slot) where
  -- a card that is turned down: what is held stays
  pub leaves_refused : (n : ℕ) → n ≤ length had → (r.number ≡ 0 → ⊥) → r.held.size ≡ n → (was : List ℕ)
      → Leaves (inserting s kind card (take n had)) r had had was was
  unfolding holding
  leaves_refused n h q z was =
      let f = insertion_inserts s (taken_for kind) card in
      let o = insertion s (taken_for kind) card in
      let e : (o.number is 0 ⇒ o.image ⁏ take n had) ≡ take n had = rest _ _ (ne_eqb _ 0 (λ x. q (k ∙ g.number ∙ x))) in
      record {
        number = k ∙ g.number;
        len = l ∙ sym (ap length f.quiet);
        slot = t ∙ g.slot;
        size = z ∙ sym (ap length e ∙ length-take-le n had h);
        image = sym (ap (λ (b : List ℕ). over b had) e ∙ over_front n had h);
        buffer = sym (ap (λ (b : List ℕ). over b was) f.quiet ∙ over_none was);
      }

  -- a card that is accepted: its image is held
  pub leaves_accepted : (image : List ℕ) {left : List ℕ} → r.number ≡ 0 → r.held.size ≡ length card → left ≡ over card had → (was : List ℕ)
      → Leaves (inserting s kind card image) r had left was was
  unfolding holding
  leaves_accepted image q z i was =
      let f = insertion_inserts s (taken_for kind) card in
      let o = insertion s (taken_for kind) card in
      let e : (o.number is 0 ⇒ o.image ⁏ image) ≡ card = first _ _ (eq-eqb _ 0 (sym (k ∙ g.number) ∙ q)) ∙ f.same in
      record {
        number = k ∙ g.number;
        len = l ∙ sym (ap length f.quiet);
        slot = t ∙ g.slot;
        size = z ∙ sym (ap length e);
        image = i ∙ sym (ap (λ (b : List ℕ). over b had) e);
        buffer = sym (ap (λ (b : List ℕ). over b was) f.quiet ∙ over_none was);
      }

-- a message: the front of the image was lent and came back
pub leaves_message : {o : Outcome} {p : Reply} {r : Done} {back was holds : List ℕ} (n : ℕ) (had : List ℕ) → length back ≡ n → Gives o p back was holds
    → r.number ≡ number p.verdict → r.len ≡ answer_length p.verdict → r.held.slot ≡ p.slot → r.held.size ≡ n
    → Leaves o r had (back ++ drop n had) was holds
unfolding over
leaves_message {back = back} n had h g k l t z = record {
  number = k ∙ g.number;
  len = l ∙ g.len;
  slot = t ∙ g.slot;
  size = z ∙ sym h ∙ ap length g.image;
  image = ap (λ (m : ℕ). back ++ drop m had) (sym h) ∙ ap (λ (b : List ℕ). over b had) g.image;
  buffer = g.buffer;
}

-- a card that is taken out: no image is held
pub leaves_taken : (had was : List ℕ) {r : Done} → r.number ≡ 0 → r.len ≡ 0 → r.held.slot ≡ removed → r.held.size ≡ 0 → Leaves taken_out r had had was was
leaves_taken had was k l t z = record { number = k; len = l; slot = t; size = z; image = sym (over_none had); buffer = sym (over_none was) }

-- the numbers of the table, and 0
exchange_small : (s : Slot) (image m : List ℕ) (room : ℕ) → (exchange s image m room).number ≤ 5
unfolding exchange served reply replied
exchange_small s image m room =
    let P : Outcome → Type 0 = λ o. o.number ≤ 5 in
    past P _ (omega arith) (λ e. past P _ (omega arith) (λ f. past P _ (omega arith) (λ g. past P _ (omega arith) (λ h. omega arith))))

pub number_small : (mark : Mark) (body : List ℕ) (s : Slot) (image : List ℕ) (room : ℕ) → (outcome_of mark body s image room).number ≤ 5
unfolding outcome_of holding
number_small Mark.Insert body s image room = (insertion_inserts s (taken_for (byte body 0)) (drop 1 body)).small
number_small Mark.Remove body s image room = omega arith
number_small Mark.Message body s image room = exchange_small s image body room

-- the answer lies in the lent buffer
pub answer_fits : {o : Outcome} {r : Done} {had left was holds : List ℕ} (n : ℕ) → Leaves o r had left was holds → length holds ≡ n → r.len ≤ n
unfolding over
answer_fits {o = o} {was = was} n d e =
    let l = d.len in
    let b : n ≡ length o.answer + length (drop (length o.answer) was) =
    sym e ∙ ap length d.buffer ∙ length-append o.answer (drop (length o.answer) was) in
    omega (arith, l, b)

-- what is held after a record is the image of its outcome: the next record goes on from there
pub held_is : {o : Outcome} {r : Done} {had left was holds : List ℕ} → Leaves o r had left was holds → take r.held.size left ≡ o.image
held_is {had = had} d = front_laid had d.size d.image

-- "the program takes kinds 10 and 11 as unknown": whatever image comes with it, 5 while a card is in, else 3
pub large_insert : (kind : ℕ) → unknown_here kind ≡ true → (s : Slot) (card image : List ℕ) (room : ℕ)
    → (outcome_of Mark.Insert (kind ∷ card) s image room).number ≡ (occupied s.holds ⇒ 5 ⁏ 3)
unfolding outcome_of holding taken_for insertion inserted_as chip_of chip_among ◌⇒◌⁏◌
large_insert kind e s card image room =
    ap (λ (k : ℕ). (insertion s k card).number) (first 0 kind e) ∙ choice_ap (λ (o : Outcome). o.number) (occupied s.holds) _ _

-- "An insert with an empty body counts as one of unknown kind": 5 while a card is in, else 3
pub empty_insert : (s : Slot) (image : List ℕ) (room : ℕ) → (outcome_of Mark.Insert [] s image room).number ≡ (occupied s.holds ⇒ 5 ⁏ 3)
unfolding outcome_of holding taken_for insertion inserted_as chip_of chip_among ◌or◌ ◌⇒◌⁏◌
empty_insert s image room = choice_ap (λ (o : Outcome). o.number) (occupied s.holds) _ _
