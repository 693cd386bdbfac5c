-- Words of all rules: choices and tests. A list of faults or steps in the paper is a chain of choices, one test to a line, in the paper's order.
use Rattle.std.specs.Prelude.{ℕ, Bool, true, false, not, eqb}

-- `test ⇒ a ⁏ b` is a where the test holds, else b; a chain of them is read top down, and the first test that holds decides.
module _ {A : Type 0} where
  infixr 10 ◌⇒◌⁏◌
  unfoldable pub ◌⇒◌⁏◌ : Bool → A → A → A
  true ⇒ a ⁏ b = a
  false ⇒ a ⁏ b = b

-- both tests hold
infixr 25 ◌and◌
unfoldable pub ◌and◌ : Bool → Bool → Bool
true and b = b
false and b = false

-- one of two tests holds
infixr 20 ◌or◌
unfoldable pub ◌or◌ : Bool → Bool → Bool
true or b = true
false or b = b

-- the first test means the second
infixr 15 ◌means◌
unfoldable pub ◌means◌ : Bool → Bool → Bool
true means b = b
false means b = true

-- two numbers are equal, or are not
infixl 40 ◌is◌
abbrev pub ◌is◌ : ℕ → ℕ → Bool
a is b = eqb a b

infixl 40 ◌isnt◌
abbrev pub ◌isnt◌ : ℕ → ℕ → Bool
a isnt b = not (eqb a b)
