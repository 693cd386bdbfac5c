-- `spend` meets its contract: the lowest one bit stands below 8 and is no more than the counter.
use mathlib.Core.Path.{sym, ap, ◌∙◌}
use native.Mathlib.Omega.{arith}
use lib.Count.{count_trailing_zeros}
use Rattle.codes.specs.Counters.{spent}
use Rattle.codes.proofs.CounterLaws.{Lowest, lowest, spent_none, spent_some}
use Rattle.codes.proofs.spend.Goals as goal
use Rattle.codes.proofs.spend.Goals.{Else-counter-eq0}

pub returns-then-counter-eq0 : goal.returns-then-counter-eq0
returns-then-counter-eq0 c = sym (ap spent c.if-counter-eq0.true ∙ spent_none)

low : (c : Else-counter-eq0) → Lowest 8 c.args.counter (count_trailing_zeros 8 c.args.counter)
low c = lowest 8 c.args.counter (omega arith) (omega arith)

pub overflow_sub-result : goal.overflow_sub-result
overflow_sub-result c = omega (arith, (low (goal.at.overflow_sub-result c).Else-counter-eq0).within)

pub returns : goal.returns
returns c = omega (arith, (low (goal.at.returns c).Else-counter-eq0).within, spent_some c.args.counter (omega arith))
