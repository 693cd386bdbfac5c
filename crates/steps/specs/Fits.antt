-- What performing an order may count on: these are no rules. Every order that the nine steps end in fits, and is short where P3 is a byte
-- (proofs/Decisions).
use Rattle.std.specs.Prelude.{◌≡◌, ℕ, ◌+◌, ◌*◌, ◌≤◌, ◌<◌, true, List, ◌⊎◌, length, Result, Ok, Err}
use Rattle.chips.specs.declared.Facts.{Facts}
use Rattle.steps.specs.declared.Status.{Status}
use Rattle.steps.specs.declared.Order.{Order}

-- the order's range lies on the card, with the data b after P3
abbrev pub Fit : Facts → List ℕ → Result Order Status → Type 0
Fit f b (Err status) = Unit {0}
Fit f b (Ok Order.Select) = Unit {0}
Fit f b (Ok (Order.Page p)) = (8 ≤ p) × (p ≤ 128)
Fit f b (Ok (Order.Read at n)) = (at + n ≤ f.memory) × (1 ≤ n)
Fit f b (Ok (Order.Counter n)) = (f.coded ≡ true) × (n ≡ f.digits + 1)
Fit f b (Ok (Order.Bits at n)) = (at + 8 * n ≤ f.covered) × (n ≤ 32)
Fit f b (Ok (Order.Write at)) = (at + length b ≤ f.memory) × (1 ≤ length b) × ((at + length b ≤ f.counter) ⊎ (f.counter < at))
Fit f b (Ok (Order.Protect at)) = (at + length b ≤ f.reach) × (1 ≤ length b)
Fit f b (Ok Order.Present) = (f.coded ≡ true) × (length b ≡ f.digits)
Fit f b (Ok Order.Change) = (f.coded ≡ true) × (length b ≡ f.digits)

-- a read is of at most 255 bytes
abbrev pub Short : Result Order Status → Type 0
Short (Err status) = Unit {0}
Short (Ok Order.Select) = Unit {0}
Short (Ok (Order.Page p)) = Unit {0}
Short (Ok (Order.Read at n)) = n < 256
Short (Ok (Order.Counter n)) = Unit {0}
Short (Ok (Order.Bits at n)) = Unit {0}
Short (Ok (Order.Write at)) = Unit {0}
Short (Ok (Order.Protect at)) = Unit {0}
Short (Ok Order.Present) = Unit {0}
Short (Ok Order.Change) = Unit {0}
