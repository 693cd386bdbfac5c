-- Every session with the messages of parameters is what the rules give: the rules are computed.
use mathlib.Core.Path.{◌≡◌, refl}
use Rattle.reader.specs.Rules.{rules}
use Rattle.vectors.specs.Sessions.{same_answers, lent, recounted, holds, failing, selected_slot, image4442, on4442}
use Rattle.vectors.specs.Parameters.{setting, tells82, fails82, parameter_rows}

pub parameters_told : failing 1 parameter_rows ≡ 0
unfolding rules same_answers lent recounted holds failing selected_slot image4442 on4442 setting tells82 fails82 parameter_rows
parameters_told = refl
