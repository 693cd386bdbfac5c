-- `byte_of` meets its contract: a number is its eight bytes, low first, and 0 stands beyond them.
use mathlib.Core.Path.{◌∙◌, ap}
use mathlib.Core.List.{List}
use Prim.Native.Nat.{ℕ}
use Rattle.words.specs.Bytes.{byte}
use Rattle.words.proofs.Numbers.{byte_low}
use Rattle.words.proofs.byte_of.Goals as goal

pub returns : goal.returns
returns c =
    let a = c.args in
    c.byte_at.ensures ∙ ap (λ (l : List ℕ). byte l a.k) c.to_le_bytes.ensures ∙ byte_low a.n a.k c.ranges.n.fits
