-- Each wrong session program is caught: on its input it prints something else than `printed`, which is computed. The parts of the right one
-- are those of `printed`, so each wrong one differs from it in its fault alone.
use Prim.Native.Nat.{ℕ, zero, suc, ◌+◌, ◌-◌}
use mathlib.Core.Path.{◌≡◌, refl, ap, ◌∙◌}
use mathlib.Core.List.{List, [], ◌++◌}
use native.Mathlib.Omega.{arith}
use lib.ListN.{length, take, drop}
use Rattle.std.specs.Prelude.{Ok, Err}
use Rattle.records.specs.Records.{Found, mark_of, body_at, record_at}
use Rattle.lines.specs.Lines.{digit_of, hex, line}
use Rattle.slot.specs.declared.Slot.{Slot}
use Rattle.slot.specs.Slots.{removed}
use Rattle.reader.specs.Rules.{rules}
use Rattle.sitting.specs.Sittings.{holding, taken_for, outcome_of}
use Rattle.printed.specs.Printed.{comes_of, line_of, parting, next, printing, printed}
use Rattle.printed.specs.Rows.{terms}
use Rattle.printed.proofs.Printing.{enough}
use Rattle.wrong.specs.WrongPrinters.{Printing, going, by, printer, right_parts, printer_uncaught, wrong_printers, print_faults, more_print_faults}

pub printers_caught : printer_uncaught 1 wrong_printers ≡ 0
unfolding rules mark_of body_at record_at holding taken_for outcome_of digit_of hex line parting printing printed terms print_faults more_print_faults wrong_printers
printers_caught = refl

-- ---- the right one
same_next : (f g : Printing) (r : Found) (left : List ℕ) (s : Slot) (image : List ℕ) → ((l : List ℕ) (t : Slot) (i : List ℕ) → f l t i ≡ g l t i)
    → going right_parts f r left s image ≡ next g r left s image
unfolding going
same_next f g (Ok r) left s image h =
    let o = comes_of r.mark (take (r.end - r.start) (drop r.start left)) s image in
    ap (λ (t : List ℕ). line_of r.mark o ++ t) (h (drop r.end left) o.slot o.image)
same_next f g (Err stop) left s image h = refl

by_right : (n : ℕ) (left : List ℕ) (s : Slot) (image : List ℕ) → by right_parts n left s image ≡ printing n left s image
unfolding by printing
by_right zero left s image = refl
by_right (suc n) left s image = same_next (by right_parts n) (printing n) (record_at left 0) left s image (by_right n)

pub right_prints : (input : List ℕ) → printer right_parts input ≡ printed input
unfolding printer printed
right_prints input = by_right (length input + 1) input removed [] ∙ enough (length input + 1) (length input) input removed [] (omega arith) (omega arith)
