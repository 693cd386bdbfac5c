-- `default_set` meets its contract: the number is the rule's.
use mathlib.Core.Path.{refl}
use Rattle.words.specs.Bytes.{number_in}
use Rattle.sets.specs.Sets.{set_with, default_set}
use Rattle.sets.proofs.default_set.Goals as goal

pub returns : goal.returns
unfolding default_set set_with number_in
returns c = refl
