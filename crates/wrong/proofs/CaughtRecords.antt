-- Every wrong reader of a raw record is caught at its input, which is computed; and no code is one that is caught.
use Prim.Native.Nat.{ℕ, ◌+◌}
use mathlib.Core.Path.{◌≡◌, refl, sym, ◌∙◌, subst}
use mathlib.Core.Bool.{true, false}
use mathlib.Core.List.{List, [], ◌∷◌}
use lib.IntN.{ℤ, pos, negsuc}
use borrow.Author.Tests.{eq-eqb, not-true}
use Rattle.std.specs.Prelude.{Result, Ok, Err}
use Rattle.words.specs.Bytes.{eight_at}
use Rattle.words.proofs.Choices.{both, no_test}
use Rattle.words.proofs.Lists.{same_of}
use Rattle.record.specs.Raw.{raw_of, slot_with, card_with, slot_of}
use Rattle.reader.specs.Fronts.{front_of}
use Rattle.reader.specs.Rules.{rules}
use Rattle.calls.specs.Calls.{RawOutcome, keeping, broken_as, raw_served, raw_fronted, raw_exchange, raw_insertion, raw_removal, RawGives}
use Rattle.vectors.specs.Sessions.{recounted, selected_slot, image4442, transfer}
use Rattle.vectors.specs.Plain.{image4418}
use Rattle.wrong.specs.WrongRecords.{RawWitness, by_raw_message, by_raw_insertion, by_raw_removal, by_result, like_raw, like_result, raw_caught, raw_uncaught}
use Rattle.wrong.specs.WrongRecords.{RawApart, RawRefuted, EachRawRefuted, wrong_records, raw_tests, fronted_by, record_by}
use Rattle.wrong.proofs.Caught.{answer_met, none_left}
use Rattle.frame.specs.declared.Refusal.{Refusal}

-- the record read by our own reading is our reader
pub record_ours : (r image m : List ℕ) (room : ℕ) → record_by slot_of r image m room ≡ raw_exchange r image m room
unfolding record_by raw_exchange
record_ours r image m room = go (front_of m room)
  where
    go : (x : Result ℕ Refusal) → fronted_by x (slot_of r) r image m ≡ raw_fronted x r image m
    go (Err f) = refl
    go (Ok n) = refl

-- ---- one verdict, record, image and buffer meet one outcome
raw_alike : (o p : RawOutcome) (v : Result ℕ Refusal) (left next was holds : List ℕ) → RawGives o v left next was holds → RawGives p v left next was holds
    → like_raw o p ≡ true
unfolding like_raw
raw_alike o p v left next was holds g h =
    let answer = answer_met o.answer p.answer was (sym g.len ∙ h.len) (sym g.buffer ∙ h.buffer) in
    both (eq-eqb _ _ (sym g.number ∙ h.number))
    (both (same_of answer) (both (same_of (sym g.raw ∙ h.raw)) (same_of (sym g.image ∙ h.image))))

pub no_call : (o p : RawOutcome) → like_raw o p ≡ false → RawApart o p
no_call o p e v left next was holds g h = no_test (raw_alike o p v left next was holds g h) e

result_self : (z : ℤ) → like_result z z ≡ true
result_self (pos n) = eq-eqb n n refl
result_self (negsuc n) = eq-eqb n n refl

-- ---- a reader that is caught is no code that meets the contract
pub raw_refuted : (w : RawWitness) → raw_caught w ≡ true → RawRefuted w
unfolding raw_caught
raw_refuted (by_raw_message w r image m) e = no_call _ _ (not-true _ e)
raw_refuted (by_raw_insertion w r kind image) e = no_call _ _ (not-true _ e)
raw_refuted (by_raw_removal w r) e = no_call _ _ (not-true _ e)
raw_refuted (by_result w n len) e = λ z p q. no_test (subst (λ (y : ℤ). like_result (w n len) y ≡ true) (sym p ∙ q) (result_self (w n len))) (not-true _ e)

pub each_raw_refuted : (k : ℕ) (ws : List RawWitness) → raw_uncaught (k + 1) ws ≡ 0 → EachRawRefuted ws
unfolding raw_uncaught
each_raw_refuted k [] e = tt
each_raw_refuted k (w ∷ ws) e = let t = none_left k (raw_caught w) (raw_uncaught (k + 1 + 1) ws) e in (raw_refuted w t.0, each_raw_refuted (k + 1) ws t.1)

-- ---- the table
pub records_caught : raw_uncaught 1 wrong_records ≡ 0
unfolding rules eight_at raw_of slot_with card_with slot_of front_of keeping broken_as raw_served raw_exchange raw_insertion raw_removal recounted selected_slot image4442
    image4418 transfer raw_tests
records_caught = refl

pub records_refuted : EachRawRefuted wrong_records
records_refuted = each_raw_refuted 0 wrong_records records_caught
