-- `short_set` meets its contract: the sum is the definition, and a byte beyond the end is 0.
use native.Mathlib.Omega.{arith}
use lib.ListN.{get_or-eq_default}
use Rattle.words.specs.Bytes.{number_in, series}
use Rattle.sets.specs.Sets.{set_with, set_of}
use Rattle.sets.proofs.short_set.Goals as goal

pub returns : goal.returns
unfolding set_of set_with number_in series
returns c =
    let m = c.args.msg.now in
    omega (
      arith,
      get_or-eq_default m 0 {n = 14} (omega arith),
      get_or-eq_default m 0 {n = 15} (omega arith),
      get_or-eq_default m 0 {n = 16} (omega arith),
    )
