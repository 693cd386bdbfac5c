-- Laws of runs: the card stays in, a sound slot stays sound and a card a card, and a run of two parts goes on from where the first ended.
use mathlib.Core.Path.{◌≡◌, refl, ◌∙◌}
use mathlib.Core.List.{List, [], ◌∷◌, ◌++◌}
use Prim.Native.Nat.{ℕ}
use Rattle.slot.specs.declared.Slot.{Slot}
use Rattle.reader.specs.Runs.{Sent, sending, run}
use Rattle.reader.specs.Proper.{Proper}
use Rattle.reader.proofs.Kept.{exchange_holds, proper_kept}

-- the card stays in for a whole run
pub run_holds : (s : Slot) (image : List ℕ) (ms : List Sent) → (run s image ms).slot.holds ≡ s.holds
unfolding run
run_holds s image [] = refl
run_holds s image (m ∷ ms) = run_holds (sending s image m).slot (sending s image m).image ms ∙ exchange_holds s image m.message m.room

-- a run of two parts is a run from where the first part ended
pub run_append : (s : Slot) (image : List ℕ) (ms ns : List Sent) → (run s image (ms ++ ns)).image ≡ (run (run s image ms).slot (run s image ms).image ns).image
unfolding run
run_append s image [] ns = refl
run_append s image (m ∷ ms) ns = run_append (sending s image m).slot (sending s image m).image ms ns

-- a sound slot with a card is one after every run
pub run_proper : (s : Slot) (image : List ℕ) (ms : List Sent) → Proper s image → Proper (run s image ms).slot (run s image ms).image
unfolding run
run_proper s image [] p = p
run_proper s image (m ∷ ms) p = run_proper (sending s image m).slot (sending s image m).image ms (proper_kept s image m.message m.room p)
