-- `write_record` meets its contract: kind, bytes 1 to 16 and the rest are stored one behind the other.
use mathlib.Core.Path.{ap, ◌∙◌}
use Prim.Native.Nat.{ℕ}
use borrow.Author.Tests.{eq-eqb}
use lib.ListN.{replicate}
use lib.Seq.{sets}
use mathlib.Core.List.{List}
use Rattle.words.proofs.Choices.{met}
use Rattle.record.proofs.RawLaws.{record_written}
use Rattle.record.proofs.write_record.Goals as goal

pub returns : goal.returns
returns c =
    let a = c.args in
    met _ (eq-eqb _ 32 c.if-raw-ne32.false)
    (c.clear_rest.ensures
    ∙ ap (λ (t : List ℕ). sets t 17 (replicate 15 0)) c.write_state.ensures
    ∙ record_written a.raw.now a.slot c.kind_of.result c.if-raw-ne32.false c.kind_of.ensures)
