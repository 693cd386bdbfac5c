-- Every starred session is what the rules give, from the first answer to the last byte named: the rules are computed.
use mathlib.Core.Path.{◌≡◌, refl}
use Rattle.reader.specs.Rules.{rules}
use Rattle.vectors.specs.Sessions.{same_answers, lent, recounted, holds, failing, selected_slot, image4442, image4428, transfer, success, failure, on4442, on4428, table}

pub starred : failing 1 table ≡ 0
unfolding rules same_answers lent recounted holds failing selected_slot image4442 image4428 transfer success failure on4442 on4428 table
starred = refl
