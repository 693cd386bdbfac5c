-- `set_parameters` meets its contract: the message's parameters are kept, and told.
use mathlib.Core.Path.{refl, sym, ap, ◌∙◌}
use Prim.Native.Nat.{ℕ}
use Rattle.slot.specs.declared.Slot.{Slot}
use Rattle.slot.specs.Slots.{set_as}
use Rattle.frame.specs.Exchange.{told, deed}
use Rattle.params.proofs.set_parameters.Goals as goal

pub returns : goal.returns
unfolding deed
returns c image =
    let a = c.args in
    let next = c.with_set-next.ensures ∙ ap (λ (t : ℕ). set_as t a.slot) c.set.ensures in
    c.tell.ensures image refl (ap (λ (s : Slot). told s image) (sym next))
