-- `from` meets its contract: each arm is its line of the table.
use mathlib.Core.Path.{◌≡◌, sym, ap}
use mathlib.Core.Logic.{◌≢◌}
use native.Mathlib.Omega.{arith}
use Prim.Native.Nat.{ℕ}
use borrow.Author.Tests.{ne_eqb}
use Rattle.words.specs.Choice.{◌⇒◌⁏◌}
use Rattle.faults.specs.declared.Request.TheVariants.{Unsupported}
use Rattle.faults.specs.Faults.{request_of}
use Rattle.faults.proofs.RequestFromU8.from.Goals as goal

-- a type byte that is none of the supported ones
other : (b : ℕ) → b ≢ 0x61 → b ≢ 0x62 → b ≢ 0x63 → b ≢ 0x65 → b ≢ 0x6C → b ≢ 0x6D → b ≢ 0x6F → Unsupported ≡ request_of b
unfolding request_of ◌⇒◌⁏◌
other b p q r s t u v =
    simp (ne_eqb b 0x61 p, ne_eqb b 0x62 q, ne_eqb b 0x63 r, ne_eqb b 0x65 s, ne_eqb b 0x6C t, ne_eqb b 0x6D u, ne_eqb b 0x6F v)

pub returns-in-97 : goal.returns-in-97
unfolding request_of ◌⇒◌⁏◌
returns-in-97 c = sym (ap request_of c.in-97.is)

pub returns-in-98 : goal.returns-in-98
unfolding request_of ◌⇒◌⁏◌
returns-in-98 c = sym (ap request_of c.in-98.is)

pub returns-in-99 : goal.returns-in-99
unfolding request_of ◌⇒◌⁏◌
returns-in-99 c = sym (ap request_of c.in-99.is)

pub returns-in-101 : goal.returns-in-101
unfolding request_of ◌⇒◌⁏◌
returns-in-101 c = sym (ap request_of c.in-101.is)

pub returns-in-108 : goal.returns-in-108
unfolding request_of ◌⇒◌⁏◌
returns-in-108 c = sym (ap request_of c.in-108.is)

pub returns-in-109 : goal.returns-in-109
unfolding request_of ◌⇒◌⁏◌
returns-in-109 c = sym (ap request_of c.in-109.is)

pub returns-in-111 : goal.returns-in-111
unfolding request_of ◌⇒◌⁏◌
returns-in-111 c = sym (ap request_of c.in-111.is)

pub returns-in-0-to-96 : goal.returns-in-0-to-96
returns-in-0-to-96 c = other _ (omega arith) (omega arith) (omega arith) (omega arith) (omega arith) (omega arith) (omega arith)

pub returns-in-0-to-96-2 : goal.returns-in-0-to-96-2
returns-in-0-to-96-2 c = other _ (omega arith) (omega arith) (omega arith) (omega arith) (omega arith) (omega arith) (omega arith)
