-- "A line each: `in K`, `out 0`, `msg K` and, for K = 0, a blank and the answer in lower-case hex", as bytes; and what a function that puts
-- bytes into a lent buffer gives.
use Rattle.std.specs.Prelude.{ℕ, ◌+◌, ◌/◌, ◌%◌, ◌≤◌, ◌≡◌, Bool, true, false, List, [], ◌∷◌, ◌++◌, length, ltb}
use Rattle.words.specs.Choice.{◌⇒◌⁏◌, ◌is◌}
use Rattle.words.specs.Bytes.{over}
use Rattle.records.specs.declared.Mark.{Mark}
use Rattle.records.specs.declared.Mark.TheVariants.{Insert, Remove, Message}
use Rattle.lines.specs.Text.{text}

-- a digit of lower-case hex: 0 to 9, then a to f
unfoldable pub digit_of : ℕ → ℕ
digit_of d = ltb d 10 ⇒ 48 + d ⁏ 87 + d

-- bytes in hex, the high digit of each first
unfoldable pub hex : List ℕ → List ℕ
hex [] = []
hex (b ∷ bs) = digit_of (b / 16) ∷ digit_of (b % 16) ∷ hex bs

-- Tables by mark: a new mark is a new line in each.
-- the word, and a blank
abbrev pub word : Mark → List ℕ
word Insert = text "in "
word Remove = text "out "
word Message = text "msg "

-- whether the answer stands in the line
abbrev pub shows : Mark → ℕ → Bool
shows Insert number = false
shows Remove number = false
shows Message number = number is 0

-- behind the number: a blank and the answer, or nothing; then the line ends
abbrev pub ending : Bool → List ℕ → List ℕ
ending true answer = 0x20 ∷ hex answer ++ (0x0A ∷ [])
ending false answer = 0x0A ∷ []

unfoldable pub line : Mark → ℕ → List ℕ → List ℕ
line mark number answer = word mark ++ ((48 + number) ∷ ending (shows mark number) answer)

-- Bytes are put at the front of a lent buffer: how many, and every byte that it holds then. They fit.
pub record Puts (bytes : List ℕ) (r : ℕ) (was holds : List ℕ) : Type 0 where
  pub len : r ≡ length bytes
  pub buffer : holds ≡ over bytes was
  pub fits : r ≤ length was
