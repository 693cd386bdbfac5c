-- `card_reader_insert` meets its contract: what `insert` gives, as one number.
use native.Mathlib.Omega.{arith}
use Rattle.calls.proofs.Lengths.{insertion_short}
use Rattle.card_reader.proofs.Results.{returns_number}
use Rattle.card_reader.proofs.card_reader_insert.Goals as goal

pub result_of-requires : goal.result_of-requires
result_of-requires c =
    let a = c.args in omega (arith, c.insert-verdict.ensures.len, insertion_short a.raw.now a.kind a.image.now)

pub returns : goal.returns
returns c =
    let a = c.args in returns_number c.insert-verdict.ensures (insertion_short a.raw.now a.kind a.image.now) c.result_of.ensures
