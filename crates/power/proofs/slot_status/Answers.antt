-- `slot_status` meets its contract: failed or not, nothing is done.
use mathlib.Core.Path.{refl}
use Rattle.frame.specs.Exchange.{deed}
use Rattle.power.proofs.slot_status.Goals as goal

pub returns : goal.returns
unfolding deed
returns c image = c.quiet.ensures image refl refl
