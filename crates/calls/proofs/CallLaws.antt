-- Laws of the calls: a call that is turned down or keeps what came of it, what a message leaves of the record, and that whatever is
-- answered was read as a sound slot.
use mathlib.Core.Path.{◌≡◌, refl, sym, ap, ◌∙◌, subst⁻¹}
use Prim.Native.Nat.{ℕ, ◌≤◌}
use mathlib.Core.Bool.{true, false}
use mathlib.Core.List.{List}
use native.Mathlib.Omega.{arith}
use lib.ListN.{length, drop, replicate}
use borrow.Author.Tests.{ne_eqb}
use Rattle.std.specs.Prelude.{Result, Ok, Err}
use Rattle.words.specs.Choice.{◌is◌}
use Rattle.words.specs.Bytes.{byte}
use Rattle.words.proofs.Lists.{over_none}
use Rattle.slot.specs.declared.Slot.{Slot}
use Rattle.sound.specs.Sound.{image_is_card, sound}
use Rattle.record.specs.declared.Flaw.{Flaw}
use Rattle.record.specs.Raw.{kind_of, slot_of}
use Rattle.record.proofs.Records.{Front, front_rest, found_front}
use Rattle.frame.specs.declared.Refusal.{Refusal}
use Rattle.frame.specs.declared.Reply.{Reply}
use Rattle.frame.specs.Exchange.{Outcome, number_of, number, answer_length, served, Gives}
use Rattle.reader.specs.Fronts.{front_of}
use Rattle.reader.proofs.Verdicts.{refused_some}
use Rattle.reader.proofs.Kept.{served_holds, served_proper}
use Rattle.calls.specs.Calls.{RawOutcome, raw_down, keeping, rawly, broken_as, raw_served, raw_fronted, raw_exchange, RawGives}

-- ---- what a call gives
-- no refusal has number 0
pub number_not : (f : Refusal) → number_of f is 0 ≡ false
number_not f = ne_eqb (number_of f) 0 (λ e. omega (arith, refused_some f))

pub raw_is : {o o' : RawOutcome} {v : Result ℕ Refusal} {left image was holds : List ℕ} → o ≡ o' → RawGives o' v left image was holds → RawGives o v left image was holds
raw_is {o} {o'} {v} {left} {image} {was} {holds} e g = subst⁻¹ (λ (x : RawOutcome). RawGives x v left image was holds) e g

-- turned down, all is as it came
pub raw_down_lem : (f : Refusal) (r image was : List ℕ) {v : Result ℕ Refusal} → v ≡ Err f → RawGives (raw_down f r image) v r image was was
raw_down_lem f r image was e = record { number = ap number e; len = ap answer_length e; raw = refl; image = refl; buffer = sym (over_none was) }

-- what came of a call on the slot is kept in the record
pub raw_kept : (r : List ℕ) {o : Outcome} {reply : Reply} {v : Result ℕ Refusal} {left image was holds : List ℕ}
    → Gives o reply image was holds → v ≡ reply.verdict → left ≡ keeping (number reply.verdict) reply.slot r → RawGives (rawly r o) v left image was holds
raw_kept r {o} {reply} g e h = record {
  number = ap number e ∙ g.number;
  len = ap answer_length e ∙ g.len;
  raw = h ∙ ap (λ (n : ℕ). keeping n reply.slot r) g.number ∙ ap (λ (s : Slot). keeping o.number s r) g.slot;
  image = g.image;
  buffer = g.buffer;
}

-- ---- a message leaves the kind and the rest as they were read
pub message_leaves : (r : List ℕ) (s t : Slot) (image m : List ℕ) → 10 ≤ length m → slot_of r ≡ Ok s → t ≡ (served s image m).slot
    → (byte r 0 ≡ kind_of t.holds) × (drop 17 r ≡ replicate 15 0)
message_leaves r s t image m w e h =
    let p : Front r s = found_front r s e in
    let q : t.holds ≡ s.holds = ap (λ (x : Slot). x.holds) h ∙ served_holds s image m w in
    (p.kind ∙ ap kind_of (sym q), front_rest p)

-- ---- whatever is read is sound or turned down
pub record Read (r image : List ℕ) : Type 0 where
  pub slot : Slot
  pub found : slot_of r ≡ Ok slot
  pub fits : image_is_card slot.holds image ≡ true
  pub whole : sound slot image ≡ true

down_no : {A : Type 0} (f : Refusal) → number_of f ≡ 0 → A
down_no f e = absurd (omega (arith, refused_some f))

module _ (r image m : List ℕ) where
  served_accepted : (x : Result Slot Flaw) → slot_of r ≡ x → (raw_served x r image m).number ≡ 0 → Read r image
  unfolding raw_served
  served_accepted (Ok s) e n = let p = served_proper s image m n in record { slot = s; found = e; fits = p.card; whole = p.sound }
  served_accepted (Err (Flaw.Broken h)) e n = down_no (broken_as h image) n
  served_accepted (Err Flaw.Unknown) e n = down_no Refusal.Image n

  pub accepted : (room : ℕ) → (raw_exchange r image m room).number ≡ 0 → Read r image
  unfolding raw_exchange
  accepted room = go (front_of m room)
    where
      go : (x : Result ℕ Refusal) → (raw_fronted x r image m).number ≡ 0 → Read r image
      go (Err f) n = down_no f n
      go (Ok k) n = served_accepted (slot_of r) refl n
