-- `page_size` meets its contract: for each of the 256 bytes the prover computes that the code's answer is the rule's.
use mathlib.Core.Path.{◌≡◌, refl, ◌∙◌}
use mathlib.Core.Bool.{Bool, beq}
use Prim.Native.Nat.{ℕ, ◌<◌}
use lib.Count.{ones}
use lib.Dec.{leb}
use borrow.Author.Rules.{rules}
use borrow.Author.Tests.{le-leb, lt-leb}
use Rattle.std.specs.Int.{is_power_of_two}
use Rattle.words.specs.Choice.{◌and◌, ◌or◌}
use Rattle.words.proofs.Choices.{and_fails, and_holds, beq_same}
use Rattle.words.proofs.Numbers.{all_below, each_below}
use Rattle.sound.specs.Sound.{page_size}
use Rattle.sound.proofs.page_size.Goals as goal

-- the code's answer
answer : ℕ → Bool
answer p = leb 8 p and is_power_of_two p

page_bytes : (p : ℕ) → p < 256 → answer p ≡ page_size p
unfolding answer all_below page_size ones ◌and◌ ◌or◌
page_bytes p h = beq_same (answer p) (page_size p) (each_below (λ (k : ℕ). beq (answer k) (page_size k)) 256 refl p h)

pub returns-then-page-ge8 : goal.returns-then-page-ge8
unfolding answer
returns-then-page-ge8 c =
    let p = c.args.page in
    and_holds (le-leb 8 p c.if-page-ge8.true) c.is_power_of_two.ensures ∙ page_bytes p (search rules)

pub returns-else-page-ge8 : goal.returns-else-page-ge8
unfolding answer
returns-else-page-ge8 c =
    let p = c.args.page in
    lt-leb 8 p c.if-page-ge8.false ∙ and_fails (is_power_of_two p) (lt-leb 8 p c.if-page-ge8.false) ∙ page_bytes p (search rules)
