use native.Mathlib.Omega.{arith}
use borrow.Author.Rules.{rules}
use Rattle.copies.proofs.BlockLaws.{block_more, block_last}
use Rattle.copies.proofs.lay_blocks.Goals as goal

pub loop-i-preserved : goal.loop-i-preserved
loop-i-preserved g c =
    let l = c.loop-i in
    record {
      inside = omega arith;
      same_length = search rules;
      laid = block_more l.i g.row.N c.args.src.now c.args.dst.now l.invariant.laid c.lay_block.ensures (omega arith) (omega arith);
    }

pub returns : goal.returns
returns g c =
    let l = c.loop-i in
    block_last l.i g.row.N c.args.src.now c.args.dst.now l.invariant.laid c.lay_block-2.ensures (omega arith) (omega arith) (omega arith) (omega arith)
