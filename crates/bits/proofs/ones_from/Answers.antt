-- `ones_from` meets its contract: wider than a byte, the number that is moved down has a 0 behind the byte's ones.
use native.Mathlib.Omega.{arith}
use Rattle.bits.proofs.ScanLaws.{ones_scanned}
use Rattle.bits.proofs.ones_from.Goals as goal

pub returns : goal.returns
returns c = rw c.trailing_ones.ensures (ones_scanned c.args.b c.args.i (omega arith) (omega arith))
