-- `protect_one` meets its contract: one byte is stored, with its bit cleared, and the bit that it had is told.
use mathlib.Core.Path.{ap}
use Prim.Native.Nat.{◌+◌, ◌/◌}
use lib.ListN.{set}
use Rattle.bits.specs.Bits.{protecting}
use Rattle.bits.proofs.Protection.protect_one.Goals as goal

pub returns : goal.returns
unfolding protecting
returns c =
    let a = c.args in
    record { image = ap (set a.image.now (a.self.bits + a.k / 8)) c.clear.ensures; more = c.wide.ensures.0 }
