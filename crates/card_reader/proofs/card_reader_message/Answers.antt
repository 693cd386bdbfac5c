-- `card_reader_message` meets its contract: what `message` gives, as one number.
use native.Mathlib.Omega.{arith}
use lib.ListN.{length}
use Rattle.calls.proofs.Lengths.{raw_short}
use Rattle.card_reader.proofs.Results.{returns_number}
use Rattle.card_reader.proofs.card_reader_message.Goals as goal

pub result_of-requires : goal.result_of-requires
result_of-requires c =
    let a = c.args in
    let small = c.shared_slice_known-1.given 14 in
    omega (
      arith,
      c.message-verdict.ensures.len,
      raw_short a.raw.now a.image.now a.message.now (omega (arith, small)) (length a.answer.now),
    )

pub returns : goal.returns
returns c =
    let a = c.args in
    let small = c.shared_slice_known-1.given 14 in
    returns_number c.message-verdict.ensures
    (raw_short a.raw.now a.image.now a.message.now (omega (arith, small)) (length a.answer.now))
    c.result_of.ensures
