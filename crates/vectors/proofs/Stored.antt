-- Every session with D0 over protected bytes is what the rules give: the rules are computed.
use mathlib.Core.Path.{◌≡◌, refl}
use Rattle.reader.specs.Rules.{rules}
use Rattle.vectors.specs.Sessions.{same_answers, lent, recounted, holds, failing, selected_slot, image4442, image4428, transfer, success}
use Rattle.vectors.specs.Plain.{image4418, image4432}
use Rattle.vectors.specs.Stored.{stored_sessions}

pub stored_told : failing 1 stored_sessions ≡ 0
unfolding rules same_answers lent recounted holds failing selected_slot image4442 image4428 transfer success image4418 image4432 stored_sessions
stored_told = refl
