-- Words of all rules: bytes, numbers in bytes, and what a buffer holds once bytes are laid into it.
use Rattle.std.specs.Prelude.{ℕ, zero, suc, ◌+◌, ◌*◌, ◌/◌, ◌%◌, ◌<◌, Bool, true, false, List, [], ◌∷◌, ◌++◌, length, get_or, drop}
use Rattle.words.specs.Choice.{◌and◌, ◌is◌}

-- byte k of a list, 0 beyond its end
abbrev pub byte : List ℕ → ℕ → ℕ
byte l k = get_or l k 0

-- a list of bytes, as every lent slice is one
pub record AllBytes (l : List ℕ) : Type 0 where
  pub fits : (k : ℕ) → byte l k < 256

-- bytes that are 00h, all of them
unfoldable pub blank : List ℕ → Bool
blank [] = true
blank (x ∷ xs) = x is 0 and blank xs

-- two lists are the same, byte by byte
unfoldable pub same : List ℕ → List ℕ → Bool
same [] [] = true
same [] (y ∷ ys) = false
same (x ∷ xs) [] = false
same (x ∷ xs) (y ∷ ys) = x is y and same xs ys

-- a number as four bytes, low first; and the number that four bytes from k on give, low first
unfoldable pub four_bytes : ℕ → List ℕ
four_bytes n = n % 256 ∷ n / 256 % 256 ∷ n / 65536 % 256 ∷ n / 16777216 % 256 ∷ []

unfoldable pub four_at : List ℕ → ℕ → ℕ
four_at l k = byte l k + 256 * byte l (k + 1) + 65536 * byte l (k + 2) + 16777216 * byte l (k + 3)

-- and eight bytes, low first
unfoldable pub eight_at : List ℕ → ℕ → ℕ
eight_at l k = four_at l k + 4294967296 * four_at l (k + 4)

-- the number that bytes make, low first; byte k of a number; and a number in k + 1 bytes, the last of which is what is left
unfoldable pub number_in : List ℕ → ℕ
number_in [] = 0
number_in (x ∷ l) = x % 256 + 256 * number_in l

unfoldable pub byte_of : ℕ → ℕ → ℕ
byte_of n zero = n % 256
byte_of n (suc k) = byte_of (n / 256) k

unfoldable pub low_first : ℕ → ℕ → List ℕ
low_first zero n = n ∷ []
low_first (suc k) n = n % 256 ∷ low_first k (n / 256)

-- bytes laid over the front of a buffer: what is past them keeps its value
unfoldable pub over : List ℕ → List ℕ → List ℕ
over bytes buffer = bytes ++ drop (length bytes) buffer

-- f k, f (k + 1), .., n of them
unfoldable pub series : (ℕ → ℕ) → ℕ → ℕ → List ℕ
series f k zero = []
series f k (suc n) = f k ∷ series f (suc k) n
