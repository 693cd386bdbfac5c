-- "records: a two-byte mark, length (2 bytes, low first), body": what stands at a place of a list of bytes.
use Rattle.std.specs.Prelude.{ℕ, ◌+◌, ◌-◌, ◌*◌, List, length, ltb, leb, None, Some, Ok, Err}
use Rattle.std.specs.declared.option.Option.{Option}
use Rattle.std.specs.declared.result.Result.{Result}
use Rattle.words.specs.Choice.{◌⇒◌⁏◌, ◌is◌}
use Rattle.words.specs.Bytes.{byte}
use Rattle.words.specs.Bounds.{largest_held}
use Rattle.records.specs.declared.Mark.{Mark}
use Rattle.records.specs.declared.Mark.TheVariants.{Insert, Remove, Message}
use Rattle.records.specs.declared.Record.{Record}
use Rattle.records.specs.declared.Stop.{Stop}
use Rattle.records.specs.declared.Stop.TheVariants.{Cut, Bad, End}

-- Tables by mark: a new mark is a new line in each.
-- "43 49 insert (kind byte, image), 43 4F remove (empty body), 4F 4D message", the two bytes as one number, the first one high
unfoldable pub mark_of : ℕ → Option Mark
mark_of word =
    word is 0x4349 ⇒ Some Insert
    ⁏ word is 0x434F ⇒ Some Remove
    ⁏ word is 0x4F4D ⇒ Some Message
    ⁏ None

-- "a body over 32,769 bytes or a non-empty remove body": the longest body that is none of these, a kind byte and the image of the
-- largest card that a record holds
abbrev pub most : Mark → ℕ
most Insert = 1 + largest_held
most Remove = 0
most Message = 1 + largest_held

-- the header at a place: the mark's two bytes, and the length of the body
abbrev pub word_at : List ℕ → ℕ → ℕ
word_at l at = 256 * byte l at + byte l (at + 1)

abbrev pub length_at : List ℕ → ℕ → ℕ
length_at l at = byte l (at + 2) + 256 * byte l (at + 3)

-- what stands at a place: a whole record, or why there is none
abbrev pub Found : Type 0
Found = Result Record Stop

-- "A record is either whole or cut", where its header is there and is not bad
unfoldable pub body_at : Option Mark → List ℕ → ℕ → Found
body_at (Some mark) l at =
    ltb (most mark) (length_at l at) ⇒ Err Bad
    ⁏ ltb (length l - (at + 4)) (length_at l at) ⇒ Err Cut
    ⁏ Ok (record { mark = mark; start = at + 4; end = at + 4 + length_at l at })
body_at None l at = Err Bad

unfoldable pub record_at : List ℕ → ℕ → Found
record_at l at =
    leb (length l) at ⇒ Err End
    ⁏ ltb (length l - at) 4 ⇒ Err Cut
    ⁏ body_at (mark_of (word_at l at)) l at
