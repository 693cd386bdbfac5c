-- What the page rule comes to, byte by byte and over any numbers. This is no rule: proofs/CutLaws shows it of `page_write`.
use Rattle.std.specs.Prelude.{◌≡◌, ℕ, ◌+◌, ◌-◌, ◌/◌, ◌%◌, ◌<◌, List, ◌++◌, length, take, drop, leb}
use Rattle.words.specs.Choice.{◌⇒◌⁏◌}
use Rattle.words.specs.Bytes.{byte}
use Rattle.pages.specs.Pages.{lands}

-- the start of the cut that address a is in, in a write from `at` on: the last multiple of the reader page, or where the write begins
unfoldable pub cut_of : ℕ → ℕ → ℕ → ℕ
cut_of reader at a = leb at (a - a % reader) ⇒ a - a % reader ⁏ at

-- where byte j of the write lands
abbrev pub lands_at : ℕ → ℕ → ℕ → ℕ → ℕ
lands_at reader chip at j = lands chip (cut_of reader at (at + j)) (at + j)

-- what a write of vs from `at` on leaves of an image
pub record Paged (reader chip : ℕ) (image : List ℕ) (at : ℕ) (vs now : List ℕ) : Type 0 where
  -- where the reader page divides the chip page exactly the named range holds the data;
  pub range : chip % reader ≡ 0 → now ≡ take at image ++ vs ++ drop (at + length vs) image
  -- otherwise each cut stays in its chip page:
  pub stays : (j : ℕ) → lands_at reader chip at j / chip ≡ cut_of reader at (at + j) / chip
  -- where bytes land the last one is held,
  pub last : (j : ℕ) → j < length vs → ((i : ℕ) → j < i → i < length vs → lands_at reader chip at i ≡ lands_at reader chip at j → ⊥)
      → byte now (lands_at reader chip at j) ≡ byte vs j
  -- and every other place is as it was
  pub kept : (k : ℕ) → ((j : ℕ) → j < length vs → lands_at reader chip at j ≡ k → ⊥) → byte now k ≡ byte image k
