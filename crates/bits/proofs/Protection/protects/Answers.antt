-- `protects` meets its contract: a byte past those covered has no bit, and the bit of another is 0 or not.
use mathlib.Core.Path.{sym}
use native.Mathlib.Omega.{arith}
use Rattle.bits.proofs.ProtectionLaws.{protected_covered, protected_beyond}
use Rattle.bits.proofs.Protection.protects.Goals as goal

pub returns-then-self-k : goal.returns-then-self-k
returns-then-self-k c = sym (protected_beyond _ _ _ _ c.if-self-k.true)

pub returns : goal.returns
returns c = sym (protected_covered _ _ _ _ (omega arith))
