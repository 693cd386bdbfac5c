-- What an inner function does, where a rule speaks of the whole: this is no rule, and nobody was offered a promise of it.
use Rattle.std.specs.Prelude.{◌≡◌, ℕ, ◌+◌, ◌/◌, ◌≤◌, ◌<◌, true, false, List, length}
use Rattle.bits.specs.Bits.{bit_of, is_protected}
use Rattle.bits.specs.declared.Protection.{Protection}

-- the protection bytes lie in an image, each of which holds eight bits
abbrev pub LiesIn : Protection → List ℕ → Type 0
LiesIn p image = p.bits + (p.covered + 7) / 8 ≤ length image

-- n bits of a byte from bit i on are 1 and stand in the byte; where they are none, bit i is 0
pub record OnesFrom (b i n : ℕ) : Type 0 where
  pub within : i + n ≤ 8
  pub ones : (j : ℕ) → j < n → bit_of b (i + j) ≡ 1
  pub none : n ≡ 0 → bit_of b i ≡ 0

-- n memory bytes from k on, no more than four protection bytes hold bits for, are not protected; where they are none, byte k is
pub record FreeFrom (bits covered : ℕ) (image : List ℕ) (k n : ℕ) : Type 0 where
  pub few : n ≤ 32
  pub free : (j : ℕ) → j < n → is_protected bits covered image (k + j) ≡ false
  pub none : n ≡ 0 → is_protected bits covered image k ≡ true
