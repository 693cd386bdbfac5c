-- Protected bytes, over every card with protection bits: which messages protect a byte.
--
-- "What holds for protected bytes is stated once over all four kinds."
use Rattle.std.specs.Prelude.{ℕ, ◌≡◌, Bool, true, false, List, [], ◌∷◌}
use Rattle.words.specs.Choice.{◌and◌, ◌or◌}
use Rattle.words.specs.Bytes.{byte}
use Rattle.chips.specs.declared.Facts.{Facts}
use Rattle.bits.specs.Bits.{is_protected}
use Rattle.slot.specs.declared.Slot.{Slot}
use Rattle.steps.specs.Steps.{order, body}
use Rattle.orders.specs.Orders.{carries_by}
use Rattle.faults.specs.Faults.{apdu}
use Rattle.reader.specs.Runs.{Sent, sending}
use Rattle.reader.specs.Heard.{requested, heard, transfers}

-- byte k of an image is protected; a byte without a bit, on a card of any kind, never is
abbrev pub protected_in : Facts → List ℕ → ℕ → Bool
protected_in f image k = is_protected f.bits f.covered image k

-- "a D1 that carries its value": the message is heard, a transfer, and its steps end in a D1 whose byte for k is the one that the card holds
unfoldable pub protects : Facts → Slot → List ℕ → Sent → ℕ → Bool
protects f s image m k =
    heard s image m
    and transfers (requested m)
    and carries_by image (body (apdu m.message)) k (order f s (apdu m.message))

-- some message of a run does, each meeting the slot and the image that the last one left
unfoldable pub some_protects : Facts → Slot → List ℕ → List Sent → ℕ → Bool
some_protects f s image [] k = false
some_protects f s image (m ∷ ms) k = protects f s image m k or some_protects f (sending s image m).slot (sending s image m).image ms k

-- "a protected byte keeps its value and stays protected whatever is sent", "a byte becomes protected by a D1 that carries its value and by
-- nothing else": of a run of messages from a slot and an image, byte k, and the image now
pub record Guards (f : Facts) (s : Slot) (image : List ℕ) (ms : List Sent) (k : ℕ) (now : List ℕ) : Type 0 where
  pub value : protected_in f image k ≡ true → byte now k ≡ byte image k
  pub protected : protected_in f now k ≡ (protected_in f image k or some_protects f s image ms k)
