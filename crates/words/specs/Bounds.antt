-- Bounds that more than one crate asks, each by its name.
use Rattle.std.specs.Prelude.{ℕ}

-- every address that P1P2 can name is below this; it is the top bit of a 17-bit address
abbrev pub addresses : ℕ
addresses = 65536

-- the bytes of the largest card: every address of a card is below this, and what an I2C card has not would stand here at most
abbrev pub largest : ℕ
largest = 131072

-- the bytes of the largest card that a record of a session holds
abbrev pub largest_held : ℕ
largest_held = 32768

-- "answer buffer under 271 bytes" is turned down
abbrev pub least_room : ℕ
least_room = 271

-- what such a buffer has behind the ten bytes of the header
abbrev pub least_tail : ℕ
least_tail = 261

-- "No answer is longer than 267 bytes": ten of the header, and the data
abbrev pub longest_answer : ℕ
longest_answer = 267

-- the longest whole record of a session: a mark, a length, and a kind byte and the image of the largest card that a record holds
abbrev pub longest_record : ℕ
longest_record = 32773
