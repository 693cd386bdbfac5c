-- A block of a copy. This is no rule of the paper: it is what the blocks of `lay` leave behind.
use Rattle.std.specs.Prelude.{ℕ, List, ◌++◌, take, drop}
use Rattle.words.specs.Bytes.{over}

-- the k bytes from `at` on, laid over a buffer at the same place
unfoldable pub block : ℕ → ℕ → List ℕ → List ℕ → List ℕ
block k at bytes buffer = take at buffer ++ over (take k (drop at bytes)) (drop at buffer)
