-- `read_bits` meets its contract: the protection bits, and 90 00 behind them.
use mathlib.Core.Path.{◌≡◌, refl, ap₂, ◌∙◌}
use mathlib.Core.List.{List}
use native.Mathlib.Omega.{arith}
use Prim.Native.Nat.{ℕ}
use lib.ListN.{length}
use Rattle.words.specs.Bytes.{over}
use Rattle.chips.specs.Kinds.{facts}
use Rattle.bits.specs.Bits.{packed_bytes}
use Rattle.bits.proofs.PackLaws.{length_packed_bytes}
use Rattle.std.specs.Prelude.{Ok}
use Rattle.steps.specs.declared.Order.{Order}
use Rattle.orders.specs.Orders.{said_by, image_by, slot_by}
use Rattle.orders.proofs.Tells.{does_tell}
use Rattle.orders.proofs.read_bits.Goals as goal

pub returns : goal.returns
unfolding said_by image_by slot_by
returns c b =
    let a = c.args in
    let f = facts a.chip in
    let d : List ℕ = packed_bytes f.bits f.covered a.image.now a.at a.n in
    let long : length d ≡ a.n = length_packed_bytes f.bits f.covered a.image.now a.at a.n in
    let told : c.read_bits.new.out ≡ over d a.out.now =
    c.read_bits.ensures
    ∙ ap₂ (λ (x y : ℕ). over (packed_bytes x y a.image.now a.at a.n) a.out.now) c.protection.ensures.0 c.protection.ensures.1 in
    does_tell f a.slot a.image.now b (Ok (Order.Bits a.at a.n)) d a.n refl refl refl long (omega arith) told
    c.done.ensures.0 c.done.ensures.1 c.done.ensures.2
