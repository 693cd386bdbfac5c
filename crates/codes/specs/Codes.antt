-- "20": a code is presented, in two steps. A try is spent; then the codes are compared.
use Rattle.std.specs.Prelude.{ℕ, Bool, List, take, drop, set}
use Rattle.words.specs.Choice.{◌⇒◌⁏◌, ◌and◌, ◌is◌, ◌isnt◌}
use Rattle.words.specs.Bytes.{byte, same}
use Rattle.codes.specs.Counters.{spent}

-- the code that an image holds
abbrev pub code_in : ℕ → ℕ → List ℕ → List ℕ
code_in code digits image = take digits (drop code image)

-- "the lowest one bit is cleared"
unfoldable pub spending : ℕ → List ℕ → List ℕ
spending counter image = set image counter (spent (byte image counter))

-- In an image with its counter at `counter`, full as `full`, and its code at `code`, `digits` long:
module _ (counter full code digits : ℕ) where
  -- "and the codes compared. Equal: counter full"
  unfoldable pub judging : List ℕ → List ℕ → List ℕ
  judging image guess = same guess (code_in code digits image) ⇒ set image counter full ⁏ image

  -- "counter 0: nothing changes. Else the lowest one bit is cleared and the codes compared"
  unfoldable pub presenting : List ℕ → List ℕ → List ℕ
  presenting image guess = byte image counter is 0 ⇒ image ⁏ judging (spending counter image) guess

  -- "Equal: .. open. Not: closed"
  unfoldable pub accepts : List ℕ → List ℕ → Bool
  accepts image guess = byte image counter isnt 0 and same guess (code_in code digits (spending counter image))
