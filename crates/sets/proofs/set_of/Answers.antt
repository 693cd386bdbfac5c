-- `set_of` meets its contract: the number of these eight bytes is the definition.
use native.Mathlib.Omega.{arith}
use Rattle.words.specs.Bytes.{number_in, series}
use Rattle.sets.specs.Sets.{set_with, set_of}
use Rattle.sets.proofs.set_of.Goals as goal

pub returns : goal.returns
unfolding set_of set_with number_in series
returns c =
    let b = c.type_inv.msg in
    omega (arith, c.from_le_bytes.ensures, b 7, b 10, b 11, b 12, b 13, b 14, b 15, b 16)
