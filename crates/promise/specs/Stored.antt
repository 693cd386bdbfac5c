-- D0 over protected bytes: what it leaves in every place of the image, and what is said of it.
--
-- "Store every unprotected byte of the range and pass over the rest. The storing routine now reports whether each byte of the range ended
-- equal to the one sent, and everything above it takes that report."
use Rattle.std.specs.Prelude.{ℕ, ◌+◌, ◌-◌, ◌≡◌, Bool, true, not, List, [], ◌∷◌, length, take, drop, leb, ltb, Ok}
use Rattle.words.specs.Choice.{◌⇒◌⁏◌, ◌and◌, ◌means◌, ◌is◌}
use Rattle.words.specs.Bytes.{byte, same}
use Rattle.chips.specs.declared.Facts.{Facts}
use Rattle.slot.specs.declared.Slot.{Slot}
use Rattle.steps.specs.declared.Order.{Order}
use Rattle.steps.specs.Steps.{order, body}
use Rattle.orders.specs.Orders.{done, unequal}
use Rattle.std.specs.Prelude.{None}
use Rattle.faults.specs.declared.Request.TheVariants.{Transfer}
use Rattle.faults.specs.Faults.{apdu}
use Rattle.frame.specs.Answers.{answer}
use Rattle.reader.specs.Runs.{Sent}
use Rattle.reader.specs.Heard.{requested, heard}
use Rattle.promise.specs.Protected.{protected_in}

-- the message is a D0 from `at` on that is let through: it is heard, a transfer, and its steps end in the write
pub record Writes (f : Facts) (s : Slot) (image : List ℕ) (m : Sent) (at : ℕ) : Type 0 where
  pub is_heard : heard s image m ≡ true
  pub asked : requested m ≡ Transfer
  pub ends : order f s (apdu m.message) ≡ Ok (Order.Write at)

-- the bytes that it sends
abbrev pub sent_by : Sent → List ℕ
sent_by m = body (apdu m.message)

-- "in the range and not protected, the byte sent; else as before": byte k afterwards, b being sent from `at` on
unfoldable pub place_after : Facts → List ℕ → ℕ → List ℕ → ℕ → ℕ
place_after f image at b k = leb at k and ltb k (at + length b) and not (protected_in f image k) ⇒ byte b (k - at) ⁏ byte image k

-- the range reads back as the data
abbrev pub reads_back : List ℕ → ℕ → List ℕ → Bool
reads_back image at b = same (take (length b) (drop at image)) b

-- each protected byte of the range is the one sent already
unfoldable pub protected_equal : Facts → List ℕ → ℕ → List ℕ → Bool
protected_equal f image k [] = true
protected_equal f image k (v ∷ vs) = (protected_in f image k means byte image k is v) and protected_equal f image (k + 1) vs

-- what it leaves of an image: each place, and when the range reads back, told from the image before
pub record Stored (f : Facts) (image : List ℕ) (at : ℕ) (b now : List ℕ) : Type 0 where
  pub place : (k : ℕ) → byte now k ≡ place_after f image at b k
  pub back : reads_back now at b ≡ protected_equal f image at b

-- the whole answer to it: 90 00 where the range reads back in the image now, else 65 81
abbrev pub word_told : Slot → Sent → ℕ → List ℕ → List ℕ
word_told s m at now = answer Transfer m.message None s (reads_back now at (sent_by m) ⇒ done ⁏ unequal)
