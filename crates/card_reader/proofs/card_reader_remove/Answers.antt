-- `card_reader_remove` meets its contract: what `remove` gives, as one number.
use native.Mathlib.Omega.{arith}
use Rattle.calls.proofs.Lengths.{removal_short}
use Rattle.card_reader.proofs.Results.{returns_number}
use Rattle.card_reader.proofs.card_reader_remove.Goals as goal

pub result_of-requires : goal.result_of-requires
result_of-requires c = let a = c.args in omega (arith, c.remove-verdict.ensures.len, removal_short a.raw.now)

pub returns : goal.returns
returns c =
    let a = c.args in returns_number c.remove-verdict.ensures (removal_short a.raw.now) c.result_of.ensures
