-- `put_eight` meets its contract: the eight bytes of the number stand where they are put.
use mathlib.Core.Path.{◌∙◌}
use native.Mathlib.Omega.{arith}
use Rattle.words.specs.Bytes.{low_first}
use Rattle.words.proofs.Lists.{mid_sets}
use Rattle.words.proofs.Numbers.{low_eight}
use Rattle.words.proofs.put_eight.Goals as goal

pub returns : goal.returns
unfolding low_first
returns c =
    let a = c.args in
    mid_sets a.k a.out.now (c.copy_from_slice.ensures.after ∙ c.to_le_bytes.ensures ∙ low_eight a.n c.ranges.n.fits) (omega arith) (omega arith)
