-- `read` meets its contract: the bytes as the host may see them, and 90 00 behind them.
use mathlib.Core.Path.{◌≡◌, refl, ap, ◌∙◌}
use mathlib.Core.List.{List}
use native.Mathlib.Omega.{arith}
use Prim.Native.Nat.{ℕ}
use lib.ListN.{length}
use Rattle.words.specs.Bytes.{over}
use Rattle.chips.specs.declared.Facts.{Facts}
use Rattle.chips.specs.Kinds.{facts}
use Rattle.reads.specs.Reads.{bytes_read}
use Rattle.reads.proofs.ReadLaws.{length_bytes_read}
use Rattle.std.specs.Prelude.{Ok}
use Rattle.steps.specs.declared.Order.{Order}
use Rattle.orders.specs.Orders.{said_by, image_by, slot_by}
use Rattle.orders.proofs.Tells.{does_tell}
use Rattle.orders.proofs.read.Goals as goal

pub returns : goal.returns
unfolding said_by image_by slot_by
returns c b =
    let a = c.args in
    let f = facts a.chip in
    let d : List ℕ = bytes_read f.code f.digits a.slot.«open» a.image.now a.at a.n in
    let long : length d ≡ a.n = length_bytes_read f.code f.digits a.slot.«open» a.image.now a.at a.n (omega arith) in
    let code = c.facts.ensures in
    let digits = c.facts-2.ensures in
    let shown : c.read_shown.new.out ≡ over d a.out.now =
    c.read_shown.ensures
    ∙ ap (λ (x : Facts). over (bytes_read x.code c.facts-2.result.digits a.slot.«open» a.image.now a.at a.n)
    a.out.now) code
    ∙ ap (λ (x : Facts). over (bytes_read f.code x.digits a.slot.«open» a.image.now a.at a.n) a.out.now) digits in
    does_tell f a.slot a.image.now b (Ok (Order.Read a.at a.n)) d a.n refl refl refl long (omega arith) shown
    c.done.ensures.0 c.done.ensures.1 c.done.ensures.2
