-- `lay_short` meets its contract: so many bytes are laid by blocks, and none where there is none.
use native.Mathlib.Omega.{arith}
use Rattle.words.proofs.Lists.{copied_all}
use Rattle.copies.proofs.lay_short.Goals as goal

pub returns-else-n-gt0 : goal.returns-else-n-gt0
returns-else-n-gt0 c = copied_all 0 c.args.src.now c.args.dst.now (omega arith)
