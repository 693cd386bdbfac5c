-- What a return under tests meets, by what its branches showed: a chain of choices, and a condition.
use borrow.Author.Tests.{le-leb, lt-leb, eq-eqb, ne_eqb, not-true, not-false}
use Rattle.words.proofs.Choices.{first, rest, and_fails, and_holds, or_taken, or_passed, means_off, means_on}

pub ruleset chains = (first, rest, eq-eqb, ne_eqb)

pub ruleset conditions = (and_fails, and_holds, or_taken, or_passed, means_off, means_on, not-true, not-false, eq-eqb, ne_eqb, le-leb, lt-leb)
