-- `read_counter` meets its contract: the counter and its zeros, and 90 00 behind them.
use mathlib.Core.Path.{◌≡◌, refl, ap, ◌∙◌}
use mathlib.Core.List.{List}
use native.Mathlib.Omega.{arith}
use Prim.Native.Nat.{ℕ}
use lib.ListN.{length}
use Rattle.words.specs.Bytes.{over}
use Rattle.chips.specs.declared.Facts.{Facts}
use Rattle.chips.specs.Kinds.{facts}
use Rattle.reads.specs.Reads.{counter_read}
use Rattle.reads.proofs.ReadLaws.{length_counter_read}
use Rattle.std.specs.Prelude.{Ok}
use Rattle.steps.specs.declared.Order.{Order}
use Rattle.orders.specs.Orders.{said_by, image_by, slot_by}
use Rattle.orders.proofs.Tells.{does_tell}
use Rattle.orders.proofs.read_counter.Goals as goal

pub returns : goal.returns
unfolding said_by image_by slot_by
returns c b =
    let a = c.args in
    let f = facts a.chip in
    let d : List ℕ = counter_read f.counter a.image.now a.n in
    let long : length d ≡ a.n = length_counter_read f.counter a.image.now a.n (omega arith) in
    let told : c.read_counter.new.out ≡ over d a.out.now =
    c.read_counter.ensures
    ∙ ap (λ (x : Facts). over (counter_read x.counter a.image.now a.n) a.out.now) c.facts.ensures in
    does_tell f a.slot a.image.now b (Ok (Order.Counter a.n)) d a.n refl refl refl long (omega arith) told
    c.done.ensures.0 c.done.ensures.1 c.done.ensures.2
