-- D0 on I2C: bytes written in pages, cut at the reader page and each cut running round on the chip page.
use Rattle.std.specs.Prelude.{ℕ, ◌+◌, ◌-◌, ◌%◌, List, [], ◌∷◌, set}
use Rattle.words.specs.Choice.{◌⇒◌⁏◌, ◌is◌}

-- "the data are cut at every card address that is a multiple of the reader page": the start of the cut that address a is in, the cut of
-- the address before having started at c
unfoldable pub cut_start : ℕ → ℕ → ℕ → ℕ
cut_start reader c a = a % reader is 0 ⇒ a ⁏ c

-- "the chip fixes the address above its own page and the low part runs on, round to the page start": where the byte for address a lands,
-- in a cut that starts at c
unfoldable pub lands : ℕ → ℕ → ℕ → ℕ
lands chip c a = c - c % chip + (c % chip + (a - c)) % chip

-- the bytes vs written from address a on, the cut so far having started at c; "later bytes overwrite"
unfoldable pub page_write : ℕ → ℕ → List ℕ → ℕ → ℕ → List ℕ → List ℕ
page_write reader chip image c a [] = image
page_write reader chip image c a (v ∷ vs) = page_write reader chip (set image (lands chip (cut_start reader c a) a) v) (cut_start reader c a) (a + 1) vs
