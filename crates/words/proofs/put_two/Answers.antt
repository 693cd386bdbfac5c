-- `put_two` meets its contract: two stores, as it says.
use native.Mathlib.Omega.{arith}
use lib.ListN.{length-set}
use Rattle.words.proofs.put_two.Goals as goal

pub bounds-out-n-2 : goal.bounds-out-n-2
bounds-out-n-2 c = simp length-set (omega arith)
