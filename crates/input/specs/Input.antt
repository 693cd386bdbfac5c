-- The input of the session program as it stands in the buffer: the bytes that came and are not used yet, and what bringing more of them
-- leaves. Which bytes a read brings the reader alone can say, and the system's says nothing; these say where they stand.
use Rattle.std.specs.Prelude.{ℕ, ◌-◌, ◌≤◌, ◌≡◌, Bool, true, false, List, ◌++◌, length, take, drop, Ok, Err}
use Rattle.records.specs.declared.Stop.TheVariants.{Cut, Bad, End}
use Rattle.records.specs.Records.{Found, record_at}
use Rattle.input.specs.declared.Brought.{Brought}

-- the bytes of a buffer from a place to an end
abbrev pub part : List ℕ → ℕ → ℕ → List ℕ
part l at end = take (end - at) (drop at l)

-- more input can make another reading of it
abbrev pub wants : Found → Bool
wants (Ok r) = false
wants (Err Cut) = true
wants (Err Bad) = false
wants (Err End) = true

-- the same bytes, and behind them what came
pub record Grows (old new : List ℕ) : Type 0 where
  pub came : List ℕ
  pub grown : new ≡ old ++ came

-- Bytes are brought: the reading is of the unused bytes, which are those that were unused before, and behind them what came. They lie in the
-- buffer.
pub record Brings (input : List ℕ) (at end : ℕ) (left : List ℕ) (r : Brought) : Type 0 where
  pub reading : r.found ≡ record_at (part left r.at r.end) 0
  pub unused : Grows (part input at end) (part left r.at r.end)
  pub ordered : r.at ≤ r.end
  pub within : r.end ≤ length left

-- the bytes that came: those that stand behind what was unused before
abbrev pub behind : ℕ → ℕ → List ℕ → Brought → List ℕ
behind at end left r = drop (end - at) (part left r.at r.end)
