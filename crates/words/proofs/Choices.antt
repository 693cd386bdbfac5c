-- Laws of choices: what holds of a chain, two chains alike, and a return that meets one.
use mathlib.Core.Path.{◌≡◌, refl, sym, subst⁻¹}
use mathlib.Core.Bool.{Bool, true, false, beq, true≢false, false≢true}
use mathlib.Core.Logic.{◌⊎◌, inl, inr}
pub use borrow.Author.Tests.{ne_eqb}
use Rattle.words.specs.Choice.{◌⇒◌⁏◌, ◌and◌, ◌or◌, ◌means◌}

-- What holds of both branches holds of a choice; each branch may use its test.
pub either : {A : Type 0} (P : A → Type 0) (b : Bool) {x y : A} → (b ≡ true → P x) → (b ≡ false → P y) → P (b ⇒ x ⁏ y)
unfolding ◌⇒◌⁏◌
either P true f g = f refl
either P false f g = g refl

-- The same where the first branch needs no test.
pub past : {A : Type 0} (P : A → Type 0) (b : Bool) {x y : A} → P x → (b ≡ false → P y) → P (b ⇒ x ⁏ y)
unfolding ◌⇒◌⁏◌
past P true p g = p
past P false p g = g refl

-- A choice is its first branch where the test holds, else its second.
pub first : {A : Type 0} {b : Bool} (x y : A) → b ≡ true → (b ⇒ x ⁏ y) ≡ x
unfolding ◌⇒◌⁏◌
first x y e = subst⁻¹ (λ (t : Bool). (t ⇒ x ⁏ y) ≡ x) e refl

pub rest : {A : Type 0} {b : Bool} (x y : A) → b ≡ false → (b ⇒ x ⁏ y) ≡ y
unfolding ◌⇒◌⁏◌
rest x y e = subst⁻¹ (λ (t : Bool). (t ⇒ x ⁏ y) ≡ y) e refl

-- A return meets a chain where its test holds, or where its test fails and it meets the rest.
pub taken : {A : Type 0} {b : Bool} {x : A} (y : A) → b ≡ true → x ≡ (b ⇒ x ⁏ y)
unfolding ◌⇒◌⁏◌
taken {A} {b} {x} y e = subst⁻¹ (λ (t : Bool). x ≡ (t ⇒ x ⁏ y)) e refl

pub met : {A : Type 0} {b : Bool} {x : A} (y : A) {z : A} → b ≡ true → z ≡ x → z ≡ (b ⇒ x ⁏ y)
unfolding ◌⇒◌⁏◌
met {A} {b} {x} y {z} e h = subst⁻¹ (λ (t : Bool). z ≡ (t ⇒ x ⁏ y)) e h

pub passed : {A : Type 0} {b : Bool} (x : A) {y z : A} → b ≡ false → z ≡ y → z ≡ (b ⇒ x ⁏ y)
unfolding ◌⇒◌⁏◌
passed {A} {b} x {y} {z} e h = subst⁻¹ (λ (t : Bool). z ≡ (t ⇒ x ⁏ y)) e h

-- Two choices by one test are equal where their branches are.
pub alike : {A : Type 0} (b : Bool) {x x' y y' : A} → (b ≡ true → x ≡ x') → (b ≡ false → y ≡ y') → (b ⇒ x ⁏ y) ≡ (b ⇒ x' ⁏ y')
unfolding ◌⇒◌⁏◌
alike true f g = f refl
alike false f g = g refl

-- What is made of a choice is the choice of what is made of its branches.
pub choice_ap : {A B : Type 0} (f : A → B) (b : Bool) (x y : A) → f (b ⇒ x ⁏ y) ≡ (b ⇒ f x ⁏ f y)
unfolding ◌⇒◌⁏◌
choice_ap f true x y = refl
choice_ap f false x y = refl

-- a choice between equal things, and one whose test cannot hold
pub same_choice : {A : Type 0} (b : Bool) {x y : A} → x ≡ y → (b ⇒ x ⁏ y) ≡ y
unfolding ◌⇒◌⁏◌
same_choice true e = e
same_choice false e = refl

pub never : {A : Type 0} (a : Bool) (x y : A) → (a and false ⇒ x ⁏ y) ≡ y
unfolding ◌and◌ ◌⇒◌⁏◌
never true x y = refl
never false x y = refl

-- A choice within a choice by its first branch, with one second branch, is one by both tests.
pub nested : {A : Type 0} (a b : Bool) (x y : A) → (b ⇒ (a ⇒ x ⁏ y) ⁏ y) ≡ (a and b ⇒ x ⁏ y)
unfolding ◌⇒◌⁏◌ ◌and◌
nested true true x y = refl
nested true false x y = refl
nested false true x y = refl
nested false false x y = refl

-- Tests taken apart.
pub and_true : (a b : Bool) → a and b ≡ true → (a ≡ true) × (b ≡ true)
unfolding ◌and◌
and_true true b e = (refl, e)
and_true false b e = (e, absurd (false≢true e))

pub or_true : (a b : Bool) → a or b ≡ true → (a ≡ true) ⊎ (b ≡ true)
unfolding ◌or◌
or_true true b e = inl refl
or_true false b e = inr e

pub or_false : (a b : Bool) → a or b ≡ false → (a ≡ false) × (b ≡ false)
unfolding ◌or◌
or_false true b e = (e, absurd (true≢false e))
or_false false b e = (refl, e)

pub means_true : (a b : Bool) → a means b ≡ true → a ≡ true → b ≡ true
unfolding ◌means◌
means_true true b e h = e
means_true false b e h = absurd (false≢true h)

-- Tests put together.
pub both : {a b : Bool} → a ≡ true → b ≡ true → a and b ≡ true
unfolding ◌and◌
both {a} {b} e h = subst⁻¹ (λ (t : Bool). t and b ≡ true) e h

pub or_left : {a : Bool} (b : Bool) → a ≡ true → a or b ≡ true
unfolding ◌or◌
or_left b e = subst⁻¹ (λ (t : Bool). t or b ≡ true) e refl

pub or_right : (a : Bool) {b : Bool} → b ≡ true → a or b ≡ true
unfolding ◌or◌
or_right true e = refl
or_right false e = e

pub meaning : (a : Bool) {b : Bool} → (a ≡ true → b ≡ true) → a means b ≡ true
unfolding ◌means◌
meaning true h = h refl
meaning false h = refl

pub and_end : (b : Bool) → b and true ≡ b
unfolding ◌and◌
and_end true = refl
and_end false = refl

pub or_end : (b : Bool) → b or false ≡ b
unfolding ◌or◌
or_end true = refl
or_end false = refl

pub or_assoc : (a b c : Bool) → (a or b) or c ≡ (a or b or c)
unfolding ◌or◌
or_assoc true b c = refl
or_assoc false b c = refl

-- a second test that fails
pub and_last : (a : Bool) {b : Bool} → b ≡ false → a and b ≡ false
unfolding ◌and◌
and_last true e = e
and_last false e = refl

-- a test is the same as itself
pub beq_self : (b : Bool) → beq b b ≡ true
beq_self true = refl
beq_self false = refl

-- and as no other
pub beq_same : (a b : Bool) → beq a b ≡ true → a ≡ b
beq_same true true e = refl
beq_same true false e = absurd (false≢true e)
beq_same false true e = absurd (false≢true e)
beq_same false false e = refl

-- A return meets a list of tests where one fails, or where one holds and it meets the rest.
pub and_fails : {a : Bool} (b : Bool) → a ≡ false → false ≡ (a and b)
unfolding ◌and◌
and_fails b e = subst⁻¹ (λ (t : Bool). false ≡ (t and b)) e refl

pub and_holds : {a : Bool} {b z : Bool} → a ≡ true → z ≡ b → z ≡ (a and b)
unfolding ◌and◌
and_holds {a} {b} {z} e h = subst⁻¹ (λ (t : Bool). z ≡ (t and b)) e h

pub or_taken : {a : Bool} (b : Bool) → a ≡ true → true ≡ (a or b)
unfolding ◌or◌
or_taken b e = subst⁻¹ (λ (t : Bool). true ≡ (t or b)) e refl

pub or_passed : {a : Bool} {b z : Bool} → a ≡ false → z ≡ b → z ≡ (a or b)
unfolding ◌or◌
or_passed {a} {b} {z} e h = subst⁻¹ (λ (t : Bool). z ≡ (t or b)) e h

pub means_off : {a : Bool} (b : Bool) → a ≡ false → true ≡ (a means b)
unfolding ◌means◌
means_off b e = subst⁻¹ (λ (t : Bool). true ≡ (t means b)) e refl

pub means_on : {a : Bool} {b z : Bool} → a ≡ true → z ≡ b → z ≡ (a means b)
unfolding ◌means◌
means_on {a} {b} {z} e h = subst⁻¹ (λ (t : Bool). z ≡ (t means b)) e h

-- A test that holds and fails is none.
pub no_test : {A : Type 0} {b : Bool} → b ≡ true → b ≡ false → A
no_test e h = absurd (true≢false (cc))

-- The laws by which a check finds that tests are the rule's: a choice by its test, two tests by the first of them.
pub and_first : {a : Bool} (b : Bool) → a ≡ false → a and b ≡ false
and_first b e = sym (and_fails b e)

pub and_second : {a : Bool} (b : Bool) → a ≡ true → a and b ≡ b
and_second b e = sym (and_holds e refl)

pub or_first : {a : Bool} (b : Bool) → a ≡ true → a or b ≡ true
or_first b e = sym (or_taken b e)

pub or_second : {a : Bool} (b : Bool) → a ≡ false → a or b ≡ b
or_second b e = sym (or_passed e refl)

pub ruleset choices = (first, rest, and_first, and_second, or_first, or_second, ne_eqb)
