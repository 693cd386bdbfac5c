-- `power_off` meets its contract: failed, or the slot is powered off.
use mathlib.Core.Path.{refl, sym, ap}
use Rattle.slot.specs.declared.Slot.{Slot}
use Rattle.frame.specs.Exchange.{idle, deed}
use Rattle.power.proofs.power_off.Goals as goal

pub returns : goal.returns
unfolding deed
returns c image = c.quiet.ensures image refl (ap (λ (s : Slot). idle s image) (sym c.power.ensures))
