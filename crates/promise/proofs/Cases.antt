-- The sentence's two cases are all there are, and give the tries in the image.
use Prim.Native.Nat.{ℕ, ◌-◌}
use mathlib.Core.Path.{◌≡◌, refl, sym, ap, ◌∙◌}
use mathlib.Core.Bool.{Bool, true, false, not}
use mathlib.Core.List.{List, [], ◌∷◌}
use native.Mathlib.Omega.{arith}
use lib.Dec.{eqb}
use borrow.Author.Tests.{eqb-true, eqb-false}
use Rattle.std.specs.Prelude.{Some}
use Rattle.words.specs.Choice.{◌or◌}
use Rattle.words.proofs.Choices.{first, rest}
use Rattle.codes.specs.Counters.{tries}
use Rattle.chips.specs.declared.Chip.{Chip}
use Rattle.chips.specs.declared.Facts.{Facts}
use Rattle.chips.specs.Kinds.{facts}
use Rattle.slot.specs.declared.Slot.{Slot}
use Rattle.frame.specs.Exchange.{Outcome, insertion}
use Rattle.reader.specs.Runs.{Sent, sending, run}
use Rattle.reader.proofs.Kept.{exchange_holds}
use Rattle.promise.specs.Tries.{Event, none, wrong, right, event_of, history, after, wrongs, renewed, PutIn, run_from, Sentence, since_it_came, since_right}
use Rattle.counts.specs.Counts.{tries_in}
use Rattle.promise.proofs.Inserted.{put_slot}
use Rattle.promise.proofs.Tries.{message_tries}

module _ (chip : Chip) (c : (facts chip).coded ≡ true) where
  abbrev f : Facts
  f = facts chip

  -- one message before a run of which the sentence holds
  one_more : (s : Slot) (image : List ℕ) (m : Sent) (ms : List Sent) (now : List ℕ) → s.holds ≡ Some chip
      → Sentence f (sending s image m).slot (sending s image m).image ms now → Sentence f s image (m ∷ ms) now
  unfolding run history renewed wrongs ◌or◌
  one_more s image m ms now holds (since_right before n later split event met renewing left) =
      since_right (m ∷ before) n later (ap (λ (l : List Sent). m ∷ l) split) event met renewing left
  one_more s image m ms now holds (since_it_came renewing left) = go (event_of f s image m) refl
    where
      then : List Event
      then = history f (sending s image m).slot (sending s image m).image ms

      t : ℕ
      t = tries_in f image

      -- what the message left
      after_it : (e : Event) → event_of f s image m ≡ e → tries_in f (sending s image m).image ≡ after (tries f.full) t e
      after_it e h = message_tries chip c s image m holds ∙ ap (after (tries f.full) t) h

      came : (e : Event) → event_of f s image m ≡ e → renewed t (e ∷ then) ≡ false → tries_in f now ≡ t - wrongs (e ∷ then) → Sentence f s image (m ∷ ms) now
      came e h r w = since_it_came (ap (λ (x : Event). renewed t (x ∷ then)) h ∙ r) (w ∙ ap (λ (x : Event). t - wrongs (x ∷ then)) (sym h))

      -- a right code
      met : event_of f s image m ≡ right → (b : Bool) → eqb t 0 ≡ b → Sentence f s image (m ∷ ms) now
      met h true z =
          let k : tries_in f (sending s image m).image ≡ t = after_it right h ∙ first _ _ z ∙ sym (eqb-true _ _ z) in
          came right h
          (ap (λ (b : Bool). not b or renewed t then) z ∙ ap (λ (n : ℕ). renewed n then) (sym k) ∙ renewing)
          (left ∙ ap (λ (n : ℕ). n - wrongs then) k)
      met h false z =
          let k : tries_in f (sending s image m).image ≡ tries f.full = after_it right h ∙ rest _ _ z in
          since_right [] m ms refl h (eqb-false _ _ z) (ap (λ (n : ℕ). renewed n then) (sym k) ∙ renewing) (left ∙ ap (λ (n : ℕ). n - wrongs then) k)

      go : (e : Event) → event_of f s image m ≡ e → Sentence f s image (m ∷ ms) now
      go none h = came none h (ap (λ (n : ℕ). renewed n then) (sym (after_it none h)) ∙ renewing) (left ∙ ap (λ (n : ℕ). n - wrongs then) (after_it none h))
      go wrong h = came wrong h (ap (λ (n : ℕ). renewed n then) (sym (after_it wrong h)) ∙ renewing) (omega (arith, left, after_it wrong h))
      go right h = met h (eqb t 0) refl

  -- from whatever slot and image the card is in
  pub sentence : (s : Slot) (image : List ℕ) (ms : List Sent) → s.holds ≡ Some chip → Sentence f s image ms (run s image ms).image
  unfolding run history renewed wrongs
  sentence s image [] holds = since_it_came refl (omega arith)
  sentence s image (m ∷ ms) holds =
      let o : Outcome = sending s image m in
      one_more s image m ms _ holds (sentence o.slot o.image ms (exchange_holds s image m.message m.room ∙ holds))

-- from the insertion on
pub sentence_holds : (chip : Chip) (s : Slot) (kind : ℕ) (image : List ℕ) (ms : List Sent) → PutIn chip s kind image
    → Sentence (facts chip) (insertion s kind image).slot (insertion s kind image).image ms (run_from s kind image ms).image
sentence_holds chip s kind image ms p =
    sentence chip p.coded (insertion s kind image).slot (insertion s kind image).image ms (ap (λ (t : Slot). t.holds) (put_slot chip s kind image p))
