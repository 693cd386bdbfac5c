-- What a page write may count on: this is no rule.
use Rattle.std.specs.Prelude.{◌≡◌, ℕ, ◌%◌, ◌≤◌}
use Rattle.words.specs.Bounds.{largest}

-- an image of n bytes is whole chip pages, and its numbers are small enough not to overflow
pub record OnPages (chip n : ℕ) : Type 0 where
  pub whole : n % chip ≡ 0
  pub page : chip ≤ largest
  pub image : n ≤ largest
