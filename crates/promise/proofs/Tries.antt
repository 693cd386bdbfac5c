-- Three tries remain three: after any run of messages the tries in the image of a code card are those that its history leaves.
use Prim.Native.Nat.{ℕ, ◌<◌}
use mathlib.Core.Path.{◌≡◌, refl, sym, ap, ◌∙◌}
use mathlib.Core.Bool.{Bool, true, false}
use mathlib.Core.List.{List, [], ◌∷◌}
use native.Mathlib.Omega.{arith}
use lib.ListN.{length}
use Rattle.std.specs.Prelude.{Some}
use Rattle.words.specs.Choice.{◌⇒◌⁏◌}
use Rattle.words.specs.Bytes.{byte}
use Rattle.words.proofs.Choices.{either, and_true}
use Rattle.codes.specs.Counters.{tries}
use Rattle.codes.proofs.CodeLaws.{wrong_costs, right_gives}
use Rattle.chips.specs.declared.Chip.{Chip}
use Rattle.chips.specs.declared.Facts.{Facts}
use Rattle.chips.specs.Kinds.{facts}
use Rattle.chips.proofs.KindLaws.{Coded, coded, laid}
use Rattle.slot.specs.declared.Slot.{Slot}
use Rattle.card.proofs.ImageLaws.{IsCard}
use Rattle.steps.specs.Steps.{body}
use Rattle.faults.specs.Faults.{apdu}
use Rattle.orders.specs.Orders.{after_code, image_by, performed}
use Rattle.frame.specs.Exchange.{Outcome, insertion}
use Rattle.reader.specs.Runs.{Sent, sending, run}
use Rattle.reader.specs.Heard.{reached}
use Rattle.reader.proofs.Came.{heard_proper}
use Rattle.reader.proofs.Kept.{proper_card, exchange_holds}
use Rattle.promise.specs.Tries.{Event, wrong, right, right_now, event_of, history, after, tries_after, tries_left, PutIn, run_from, history_from}
use Rattle.counts.specs.Counts.{tries_in}
use Rattle.promise.proofs.Reached.{reached_does, unreached_keeps, unreached_none, reached_event}
use Rattle.promise.proofs.Inserted.{put_slot, put_image}
use Rattle.promise.proofs.Accounts.{fold_is_account}

-- ---- one message
module _ (chip : Chip) (c : (facts chip).coded ≡ true) (s : Slot) (image : List ℕ) (m : Sent) (holds : s.holds ≡ Some chip) where
  abbrev f : Facts
  f = facts chip

  code_tries : IsCard f image
      → tries (byte (after_code f image (body (apdu m.message))) f.counter) ≡ after (tries f.full) (tries_in f image) (right_now f image m ⇒ right ⁏ wrong)
  unfolding right_now
  code_tries k =
      let l : Coded f = coded chip c in
      let inside : f.counter < length image = omega (arith, k.long, l.inside) in
      let small : byte image f.counter < 256 = omega (arith, k.within, (laid chip).small) in
      let b : List ℕ = body (apdu m.message) in
      either (λ (e : Event). tries (byte (after_code f image b) f.counter) ≡ after (tries f.full) (tries_in f image) e) (right_now f image m)
      (λ e. right_gives f.counter f.full f.code f.digits image b inside l.behind small e)
      (λ e. wrong_costs f.counter f.full f.code f.digits image b inside l.behind small e)

  -- a message leaves the tries that its event leaves
  pub message_tries : tries_in f (sending s image m).image ≡ after (tries f.full) (tries_in f image) (event_of f s image m)
  unfolding performed image_by reached
  message_tries = go (reached f s image m) refl
    where
      go : (b : Bool) → reached f s image m ≡ b → tries_in f (sending s image m).image ≡ after (tries f.full) (tries_in f image) (event_of f s image m)
      go false e = ap tries (unreached_keeps chip s image m holds c e) ∙ ap (after (tries f.full) (tries_in f image)) (sym (unreached_none f s image m e))
      go true e =
          ap (λ (o : Outcome). tries_in f o.image) (reached_does chip s image m holds e)
          ∙ code_tries (proper_card chip s image holds (heard_proper s image m (and_true _ _ e).0))
          ∙ ap (after (tries f.full) (tries_in f image)) (sym (reached_event f s image m e))

-- ---- a run
module _ (chip : Chip) (c : (facts chip).coded ≡ true) where
  run_tries : (s : Slot) (image : List ℕ) (ms : List Sent) → s.holds ≡ Some chip
      → tries_in (facts chip) (run s image ms).image ≡ tries_after (tries (facts chip).full) (tries_in (facts chip) image) (history (facts chip) s image ms)
  unfolding run history tries_after
  run_tries s image [] e = refl
  run_tries s image (m ∷ ms) e =
      let o : Outcome = sending s image m in
      run_tries o.slot o.image ms (exchange_holds s image m.message m.room ∙ e)
      ∙ ap (λ (t : ℕ). tries_after (tries (facts chip).full) t (history (facts chip) o.slot o.image ms)) (message_tries chip c s image m e)

  -- from whatever slot and image: a record that is not sound and an image that is no card are turned down, and turned-down messages cost none
  pub tries_left_lem : (s : Slot) (image : List ℕ) (ms : List Sent) → s.holds ≡ Some chip
      → tries_in (facts chip) (run s image ms).image ≡ tries_left (tries (facts chip).full) (tries_in (facts chip) image) (history (facts chip) s image ms)
  tries_left_lem s image ms e = run_tries s image ms e ∙ fold_is_account (tries (facts chip).full) (tries_in (facts chip) image) (history (facts chip) s image ms)

-- ---- from the insertion on
module _ (chip : Chip) (s : Slot) (kind : ℕ) (image : List ℕ) (p : PutIn chip s kind image) where
  -- "For a code card just inserted and left in, after any run of messages, tries left are those it came with, or all of them since the
  -- last right code that met a try, less the wrong codes since, stopping at zero."
  pub tries_remain : (ms : List Sent)
      → tries_in (facts chip) (run_from s kind image ms).image ≡ tries_left (tries (facts chip).full) (tries_in (facts chip) image) (history_from chip s kind image ms)
  tries_remain ms =
      tries_left_lem chip p.coded (insertion s kind image).slot (insertion s kind image).image ms (ap (λ (t : Slot). t.holds) (put_slot chip s kind image p))
      ∙ ap (λ (l : List ℕ). tries_left (tries (facts chip).full) (tries_in (facts chip) l) (history_from chip s kind image ms)) (put_image chip s kind image)
