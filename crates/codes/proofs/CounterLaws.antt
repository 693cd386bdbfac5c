-- Laws of counters: where the lowest one bit stands, and that a spent try is exactly one bit less.
use mathlib.Core.Path.{◌≡◌, refl, ap, ◌∙◌}
use Prim.Native.Nat.{ℕ, zero, suc, ◌+◌, ◌-◌, ◌*◌, ◌/◌, ◌%◌, ◌^◌, ◌≤◌, ◌<◌}
use native.Mathlib.Nat.{pow-suc}
use native.Mathlib.Omega.{arith}
use lib.Count.{ones, ones_step, count_trailing_zeros, under}
use borrow.Author.Tests.{eq-eqb, ne_eqb}
use Rattle.words.proofs.Choices.{first, rest, either}
use Rattle.codes.specs.Counters.{tries, spent}

-- what is known of the lowest one bit's place t in the k digits of n
pub record Lowest (k n t : ℕ) : Type 0 where
  pub place : t < k
  pub within : 2 ^ t ≤ n
  pub left : ones (n - 2 ^ t) + 1 ≡ ones n

pub lowest : (k n : ℕ) → 0 < n → n < 2 ^ k → Lowest k n (count_trailing_zeros k n)
unfolding count_trailing_zeros
lowest zero n p h = absurd (omega arith)
lowest (suc k) n p h = go (n % 2) refl (λ q. lowest k (n / 2) q (omega (arith, pow-suc 2 k)))
  where
    go : (b : ℕ) → n % 2 ≡ b → (0 < n / 2 → Lowest k (n / 2) (count_trailing_zeros k (n / 2))) → Lowest (suc k) n (under b (count_trailing_zeros k (n / 2)))
    go zero e ih =
        let t : ℕ = count_trailing_zeros k (n / 2) in
        let r : Lowest k (n / 2) t = ih (omega arith) in
        let p2 : 2 ^ suc t ≡ 2 ^ t * 2 = pow-suc 2 t in
        let w : 2 ^ suc t ≤ n = omega (arith, r.within) in
        let half : (n - 2 ^ suc t) / 2 ≡ n / 2 - 2 ^ t = omega (arith, r.within) in
        record {
          place = omega (arith, r.place);
          within = w;
          left = omega (arith, ones_step (n - 2 ^ suc t), ones_step n, ap ones half, r.left);
        }
    go (suc zero) e ih =
        let half : (n - 1) / 2 ≡ n / 2 = omega arith in
        record {
          place = omega arith;
          within = p;
          left = omega (arith, ones_step (n - 1), ones_step n, ap ones half);
        }
    go (suc (suc b)) e ih = absurd (omega arith)

pub spent_none : spent 0 ≡ 0
unfolding spent
spent_none = first _ _ (eq-eqb 0 0 refl)

pub spent_some : (c : ℕ) → 0 < c → spent c ≡ c - 2 ^ count_trailing_zeros 8 c
unfolding spent
spent_some c p = rest _ _ (ne_eqb c 0 (λ e. omega arith))

-- a spent try is exactly one bit less
pub spent_ones : (c : ℕ) → 0 < c → c < 256 → tries (spent c) + 1 ≡ tries c
spent_ones c p h = ap (λ (n : ℕ). ones n + 1) (spent_some c p) ∙ (lowest 8 c p h).left

-- a counter never rises by a spent try
pub spent_le : (c : ℕ) → spent c ≤ c
unfolding spent
spent_le c = either (λ (n : ℕ). n ≤ c) _ (λ _. omega arith) (λ _. omega arith)

-- a counter that is not 0 has a try, and one that is 0 has none
pub tries_none : tries 0 ≡ 0
unfolding ones
tries_none = refl

pub tries_some : (c : ℕ) → 0 < c → c < 256 → 0 < tries c
tries_some c p h = omega (arith, (lowest 8 c p h).left)

pub tries_zero : (c : ℕ) → c < 256 → tries c ≡ 0 → c ≡ 0
tries_zero zero h e = refl
tries_zero (suc c) h e = absurd (omega (arith, tries_some (suc c) (omega arith) h))
