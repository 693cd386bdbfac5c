-- `four_at` meets its contract: the part is four bytes of the slice, and the library's number of them is the rule's.
use mathlib.Core.Path.{ap, ◌∙◌}
use native.Mathlib.Omega.{arith}
use Prim.Native.Nat.{◌+◌, ◌-◌}
use Rattle.std.specs.Int.{w32, from_le_bytes}
use Rattle.words.proofs.Numbers.{four_from}
use Rattle.words.proofs.four_at.Goals as goal

pub returns : goal.returns
returns c =
    let a = c.args in
    let bytes = rw c.unwrap.ensures at c.first_chunk.ensures.cases in
    c.from_le_bytes.ensures ∙ ap (from_le_bytes w32) bytes.same ∙ four_from a.s.now a.k (a.k + 4 - a.k) (omega arith)
