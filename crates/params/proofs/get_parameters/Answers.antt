-- `get_parameters` meets its contract: the parameters that stand are told.
use mathlib.Core.Path.{refl}
use Rattle.frame.specs.Exchange.{deed}
use Rattle.params.proofs.get_parameters.Goals as goal

pub returns : goal.returns
unfolding deed
returns c image = c.tell.ensures image refl refl
