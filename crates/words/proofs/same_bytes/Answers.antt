-- `same_bytes` meets its contract: the library's test of two slices is the rule's.
use mathlib.Core.Path.{◌∙◌}
use Rattle.words.proofs.Lists.{same_pointwise}
use Rattle.words.proofs.same_bytes.Goals as goal

pub returns : goal.returns
returns c = c.eq.ensures ∙ same_pointwise c.args.a.now c.args.b.now
