-- Each row is what the rules give: `printed` is computed at its input.
use mathlib.Core.Path.{◌≡◌, refl}
use Rattle.reader.specs.Rules.{rules}
use Rattle.records.specs.Records.{mark_of, body_at, record_at}
use Rattle.sitting.specs.Sittings.{holding, taken_for, outcome_of}
use Rattle.lines.specs.Lines.{digit_of, hex, line}
use Rattle.printed.specs.Printed.{parting, printing, printed}
use Rattle.printed.specs.Rows.{misprinted, terms, rows}

pub all_rows : misprinted 1 rows ≡ 0
unfolding rules mark_of body_at record_at holding taken_for outcome_of digit_of hex line parting printing printed misprinted terms rows
all_rows = refl
