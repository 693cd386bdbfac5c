-- `put_hex` meets its contract. The loop's invariant: the bytes so far stand in hex, two digits each.
use mathlib.Core.Path.{◌≡◌}
use Prim.Native.Nat.{◌*◌}
use lib.ListN.{take}
use Rattle.words.specs.Bytes.{over}
use Rattle.lines.specs.Lines.{hex}
use Rattle.lines.proofs.put_hex.Given as goal

abbrev pub invariant-loop-b : goal.invariant-loop-b
invariant-loop-b l = (l.at ≡ 2 * l.b-index) × (l.out ≡ over (hex (take l.b-index l.bytes)) l.initial.out)
