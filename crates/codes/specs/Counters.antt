-- Counters: how many tries a counter has left, and a counter with one spent.
use Rattle.std.specs.Prelude.{ℕ, ◌-◌, ◌^◌}
use Rattle.std.specs.Int.Count.{ones, count_trailing_zeros}
use Rattle.words.specs.Choice.{◌⇒◌⁏◌, ◌is◌}

-- "Tries left are the one bits of the counter"
abbrev pub tries : ℕ → ℕ
tries counter = ones counter

-- "the lowest one bit is cleared"; a counter of 0 has none
unfoldable pub spent : ℕ → ℕ
spent counter = counter is 0 ⇒ 0 ⁏ counter - 2 ^ count_trailing_zeros 8 counter
