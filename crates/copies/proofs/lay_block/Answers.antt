-- `lay_block` meets its contract: so many bytes are read at the place and put there.
use native.Mathlib.Omega.{arith}
use Rattle.copies.proofs.BlockLaws.{chunk_laid}
use Rattle.copies.proofs.lay_block.Goals as goal

pub returns : goal.returns
returns g c = chunk_laid g.row.N c.args.at c.args.src.now c.args.dst.now (omega arith) (omega arith)
