-- The counts of the slot record: what a status screen shows that is handed the record only.
--
-- "The status screen shows tries left and number of protected bytes after each message, and it is handed the slot record only. Store both in
-- the slot record and have insertion, removal, code presentation and D1 keep them true."
use Rattle.std.specs.Prelude.{ℕ, zero, suc, ◌+◌, ◌*◌, ◌≡◌, Bool, true, false, not, List, [], ◌∷◌, Result, Ok, Err}
use Rattle.words.specs.Choice.{◌⇒◌⁏◌, ◌and◌, ◌is◌}
use Rattle.words.specs.Bytes.{byte}
use Rattle.codes.specs.Counters.{tries}
use Rattle.chips.specs.declared.Facts.{Facts}
use Rattle.slot.specs.declared.Slot.{Slot}
use Rattle.counts.specs.Counts.{tries_in, count_in}
use Rattle.steps.specs.declared.Status.{Status}
use Rattle.steps.specs.declared.Order.{Order}
use Rattle.steps.specs.Steps.{order, body}
use Rattle.faults.specs.Faults.{apdu}
use Rattle.reader.specs.Runs.{Sent, sending}
use Rattle.reader.specs.Heard.{requested, heard, transfers}
use Rattle.promise.specs.Tries.{tries_left, history}
use Rattle.promise.specs.Protected.{protected_in}

-- ---- the number of protected bytes
-- how many of the first n bytes are protected
unfoldable pub places : Facts → List ℕ → ℕ → ℕ
places f image zero = 0
places f image (suc k) = (protected_in f image k ⇒ 1 ⁏ 0) + places f image k

-- D1 sends b from k on: the bytes that it carries the value of and that were not protected before. One byte x for which v is sent counts where the
-- two are equal and it was not protected
abbrev pub one_new : ℕ → ℕ → Bool → ℕ
one_new x v was = x is v and not was ⇒ 1 ⁏ 0

unfoldable pub newly : Facts → List ℕ → ℕ → List ℕ → ℕ
newly f image k [] = 0
newly f image k (v ∷ b) = one_new (byte image k) v (protected_in f image k) + newly f image (k + 1) b

-- what an order, a message, a run of messages adds to it
abbrev pub added_by : Facts → List ℕ → List ℕ → Result Order Status → ℕ
added_by f image b (Err status) = 0
added_by f image b (Ok Order.Select) = 0
added_by f image b (Ok (Order.Page p)) = 0
added_by f image b (Ok (Order.Read at n)) = 0
added_by f image b (Ok (Order.Counter n)) = 0
added_by f image b (Ok (Order.Bits at n)) = 0
added_by f image b (Ok (Order.Write at)) = 0
added_by f image b (Ok (Order.Protect at)) = newly f image at b
added_by f image b (Ok Order.Present) = 0
added_by f image b (Ok Order.Change) = 0

unfoldable pub added : Facts → Slot → List ℕ → Sent → ℕ
added f s image m =
    let d = apdu m.message in
    heard s image m and transfers (requested m) ⇒ added_by f image (body d) (order f s d)
    ⁏ 0

unfoldable pub added_in : Facts → Slot → List ℕ → List Sent → ℕ
added_in f s image [] = 0
added_in f s image (m ∷ ms) = added f s image m + added_in f (sending s image m).slot (sending s image m).image ms

-- ---- what is shown
-- in a raw record
abbrev pub tries_shown : List ℕ → ℕ
tries_shown r = byte r 13

abbrev pub protected_shown : List ℕ → ℕ
protected_shown r = byte r 14 + 256 * byte r 15

-- after a run of messages to a card, from a slot and an image: demand 3's tries, and none of a card without a code; and as many protected bytes as
-- it came with and D1 added
pub record Shown (f : Facts) (s : Slot) (image : List ℕ) (ms : List Sent) (left n : ℕ) : Type 0 where
  pub tries : f.coded ≡ true → left ≡ tries_left (tries f.full) (tries_in f image) (history f s image ms)
  pub codeless : f.coded ≡ false → left ≡ 0
  pub protected : n ≡ count_in f image + added_in f s image ms
