-- Three tries remain three: the history of a card that is left in, and the tries that the history alone leaves.
--
-- "For a code card just inserted and left in, after any run of messages, tries left are those it came with, or all of them since the
-- last right code that met a try, less the wrong codes since, stopping at zero. From zero no message changes a byte of that card."
use Rattle.std.specs.Prelude.{length, leb, ◌≢◌, ◌≡◌, ℕ, suc, ◌-◌, Bool, true, false, List, [], ◌∷◌, ◌++◌, Some}
use Rattle.words.specs.Choice.{◌and◌, ◌⇒◌⁏◌, ◌or◌, ◌is◌, ◌isnt◌}
use Rattle.words.specs.Bounds.{least_room}
use Rattle.words.specs.Bytes.{same}
use Rattle.codes.specs.Counters.{tries}
use Rattle.codes.specs.Codes.{code_in}
use Rattle.chips.specs.declared.Chip.{Chip}
use Rattle.chips.specs.declared.Facts.{Facts}
use Rattle.chips.specs.Kinds.{facts, chip_of}
use Rattle.slot.specs.declared.Slot.{Slot}
use Rattle.counts.specs.Counts.{tries_in}
use Rattle.steps.specs.Steps.{body}
use Rattle.faults.specs.Faults.{is_clear, apdu}
use Rattle.frame.specs.Exchange.{insertion}
use Rattle.reader.specs.Heard.{faulted, reached}
use Rattle.reader.specs.Runs.{Sent, Run, sending, run}

-- ---- the history
-- What a message was to the card: no code reached it, or a code did, and was wrong or right for the code that the card held then.
pub data Event : Type 0 where
  none : Event
  wrong : Event
  right : Event

-- the code that the message carries is the one that the card holds
unfoldable pub right_now : Facts → List ℕ → Sent → Bool
right_now f image m = same (body (apdu m.message)) (code_in f.code f.digits image)

unfoldable pub event_of : Facts → Slot → List ℕ → Sent → Event
event_of f s image m =
    reached f s image m ⇒ (right_now f image m ⇒ right ⁏ wrong)
    ⁏ none

-- every message of a run, in order, each counted on its own
unfoldable pub history : Facts → Slot → List ℕ → List Sent → List Event
history f s image [] = []
history f s image (m ∷ ms) = event_of f s image m ∷ history f (sending s image m).slot (sending s image m).image ms

-- the history of later messages, after those before and one more
abbrev pub history_after : Facts → Slot → List ℕ → List Sent → Sent → List Sent → List Event
history_after f s image before m later =
    let r = run s image before in
    history f (sending r.slot r.image m).slot (sending r.slot r.image m).image later

-- ---- the tries that a history leaves, `full` being all of them
-- as a fold: a wrong code costs one, "stopping at zero"; a right code that meets a try gives all of them
abbrev pub after : ℕ → ℕ → Event → ℕ
after full t none = t
after full t wrong = t - 1
after full t right = t is 0 ⇒ 0 ⁏ full

unfoldable pub tries_after : ℕ → ℕ → List Event → ℕ
tries_after full t [] = t
tries_after full t (e ∷ es) = tries_after full (after full t e) es

-- The sentence's own form. The account of a history: the tries counted from ("those it came with, or all of them since the last right
-- code that met a try"), and the events since.
pub record Account : Type 0 where
  pub counted : ℕ
  pub since : List Event

-- "the wrong codes since"
unfoldable pub wrongs : List Event → ℕ
wrongs [] = 0
wrongs (none ∷ es) = wrongs es
wrongs (wrong ∷ es) = suc (wrongs es)
wrongs (right ∷ es) = wrongs es

-- "less the wrong codes since, stopping at zero"
unfoldable pub left : Account → ℕ
left a = a.counted - wrongs a.since

-- one event more: a right code that met a try starts the account anew, at all of them
abbrev pub entered : ℕ → Account → Event → Account
entered full a none = record { counted = a.counted; since = a.since ++ (none ∷ []) }
entered full a wrong = record { counted = a.counted; since = a.since ++ (wrong ∷ []) }
entered full a right = left a is 0 ⇒ record { counted = a.counted; since = a.since ++ (right ∷ []) } ⁏ record { counted = full; since = [] }

unfoldable pub account : ℕ → Account → List Event → Account
account full a [] = a
account full a (e ∷ es) = account full (entered full a e) es

-- the account of a card that came with t tries
abbrev pub came_with : ℕ → Account
came_with t = record { counted = t; since = [] }

-- the tries that a history leaves of those the card came with
unfoldable pub tries_left : ℕ → ℕ → List Event → ℕ
tries_left full t es = left (account full (came_with t) es)

-- some right code of a history that starts with t tries met a try
unfoldable pub renewed : ℕ → List Event → Bool
renewed t [] = false
renewed t (none ∷ es) = renewed t es
renewed t (wrong ∷ es) = renewed (t - 1) es
renewed t (right ∷ es) = t isnt 0 or renewed t es

-- ---- the card in the slot; tries left are `tries_in` its image
-- "a code card just inserted": the slot was lent this kind and this image, and the insertion was accepted
pub record PutIn (chip : Chip) (s : Slot) (kind : ℕ) (image : List ℕ) : Type 0 where
  pub coded : (facts chip).coded ≡ true
  pub known : chip_of kind ≡ Some chip
  pub accepted : (insertion s kind image).number ≡ 0

-- "and left in, after any run of messages": what the run leaves, and its history
abbrev pub run_from : Slot → ℕ → List ℕ → List Sent → Run
run_from s kind image ms = run (insertion s kind image).slot (insertion s kind image).image ms

abbrev pub history_from : Chip → Slot → ℕ → List ℕ → List Sent → List Event
history_from chip s kind image ms = history (facts chip) (insertion s kind image).slot (insertion s kind image).image ms

-- ---- what the history looks at
-- room, length and no fault: nothing of the image
unfoldable pub unfaulted : Slot → Sent → Bool
unfaulted s m = leb least_room m.room and leb 10 (length m.message) and is_clear (faulted s m)

-- ---- the sentence
-- "tries left are those it came with, or all of them since the last right code that met a try, less the wrong codes since, stopping at
-- zero": of a run of messages from a slot and an image, and the image now
pub data Sentence (f : Facts) (s : Slot) (image : List ℕ) (ms : List Sent) (now : List ℕ) : Type 0 where
  -- no right code met a try
  since_it_came : renewed (tries_in f image) (history f s image ms) ≡ false
      → tries_in f now ≡ tries_in f image - wrongs (history f s image ms)
      → Sentence f s image ms now
  -- the message m brought a right code, which met a try, and no right code met one later
  since_right : (before : List Sent) (m : Sent) (later : List Sent) → ms ≡ before ++ (m ∷ later)
      → event_of f (run s image before).slot (run s image before).image m ≡ right
      → tries_in f (run s image before).image ≢ 0
      → renewed (tries f.full) (history_after f s image before m later) ≡ false
      → tries_in f now ≡ tries f.full - wrongs (history_after f s image before m later)
      → Sentence f s image ms now
