-- What inner functions do, where a rule speaks of the whole: these are no rules, and nobody offered a promise of them.
use Rattle.std.specs.Prelude.{ℕ, zero, suc, ◌+◌, ◌-◌, List, set, leb, ltb}
use Rattle.words.specs.Choice.{◌⇒◌⁏◌}

-- In a buffer that holds the image's bytes from `at` up to `end`: image byte k reads 00h,
unfoldable pub blank_one : ℕ → ℕ → ℕ → List ℕ → List ℕ
blank_one at end k out = leb at k ⇒ (ltb k end ⇒ set out (k - at) 0 ⁏ out) ⁏ out

-- and so do the n image bytes from `code` on
unfoldable pub blanked : ℕ → ℕ → ℕ → ℕ → List ℕ → List ℕ
blanked at end code zero out = out
blanked at end code (suc n) out = blank_one at end (code + n) (blanked at end code n out)
