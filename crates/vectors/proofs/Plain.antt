-- Every session with a card without a code is what the rules give: the rules are computed.
use mathlib.Core.Path.{◌≡◌, refl}
use Rattle.reader.specs.Rules.{rules}
use Rattle.vectors.specs.Sessions.{same_answers, lent, recounted, holds, failing, selected_slot, transfer, success}
use Rattle.vectors.specs.Plain.{image4418, image4432, on4418, on4432, plain_sessions}

pub plain_told : failing 1 plain_sessions ≡ 0
unfolding rules same_answers lent recounted holds failing selected_slot transfer success image4418 image4432 on4418 on4432 plain_sessions
plain_told = refl
