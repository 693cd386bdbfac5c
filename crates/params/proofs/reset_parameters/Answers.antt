-- `reset_parameters` meets its contract: the default returns, and is told.
use mathlib.Core.Path.{refl, sym, ap}
use Rattle.slot.specs.declared.Slot.{Slot}
use Rattle.frame.specs.Exchange.{told, deed}
use Rattle.params.proofs.reset_parameters.Goals as goal

pub returns : goal.returns
unfolding deed
returns c image = c.tell.ensures image refl (ap (λ (s : Slot). told s image) (sym c.reset_set.ensures))
