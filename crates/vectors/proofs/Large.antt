-- Every command to the large cards says and does what the rules give: the rules are computed.
use mathlib.Core.Path.{◌≡◌, refl}
use Rattle.reader.specs.Rules.{rules}
use Rattle.vectors.specs.Sessions.{selected_slot}
use Rattle.vectors.specs.Large.{follows, obeyed, disobeyed, large_commands}

pub large_told : disobeyed 1 large_commands ≡ 0
unfolding rules follows obeyed disobeyed selected_slot large_commands
large_told = refl
