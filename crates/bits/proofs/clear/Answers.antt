-- `clear` meets its contract: a mask of eight ones but for the bit clears it.
use mathlib.Core.Path.{◌≡◌, ap, ◌∙◌}
use native.Mathlib.Omega.{arith}
use Prim.Native.Nat.{◌-◌, ◌*◌, ◌%◌, ◌^◌, ◌<◌}
use lib.Bits.{bit_and}
use lib.Pow.{pow-lt}
use Rattle.bits.proofs.BitLaws.{and_clears}
use borrow.Author.Rules.{rules}
use Rattle.bits.proofs.clear.Goals as goal

pub returns : goal.returns
returns c =
    let b = c.args.b in
    let i = c.args.i in
    let below : 2 ^ i < 256 = pow-lt {j = 8} (search rules) in
    let mask : 255 - 1 * 2 ^ i % 256 ≡ 255 - 2 ^ i = omega (arith, below) in
    ap (bit_and b) mask ∙ and_clears 8 b i (search rules) (search rules)
