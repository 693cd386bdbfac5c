-- Laws of a turn: the answer that its line shows is the one that was given, and what it holds goes on to the next.
use mathlib.Core.Path.{◌≡◌, sym, ap₂}
use mathlib.Core.List.{List}
use Prim.Native.Nat.{ℕ}
use lib.ListN.{take}
use Rattle.words.proofs.Lists.{front_laid}
use Rattle.frame.specs.Exchange.{Outcome}
use Rattle.records.specs.declared.Mark.{Mark}
use Rattle.sitting.specs.declared.Done.{Done}
use Rattle.sitting.specs.Sittings.{Leaves}
use Rattle.lines.specs.Lines.{line, Puts}
use Rattle.lines.proofs.LineLaws.{puts_front, puts_is}
use Rattle.printed.specs.declared.Turned.{Turned}
use Rattle.printed.specs.Printed.{line_of}
use Rattle.printed.specs.Turns.{Turns}

-- a record that is done, and its line put into the buffer
pub turned : (mark : Mark) {o : Outcome} {d : Done} {n : ℕ} {had left was holds blank told : List ℕ} → Leaves o d had left was holds
    → Puts (line mark d.number (take d.len holds)) n blank told
    → Turns mark o (record { held = d.held; len = n }) had left was holds blank told
turned mark {o} {d} {n} {had} {left} {was} {holds} e p =
    let shown : take d.len holds ≡ o.answer = front_laid was e.len e.buffer in
    let l = puts_is (ap₂ (line mark) (sym e.number) (sym shown)) p in
    record { line = l; slot = e.slot; size = e.size; image = e.image; buffer = e.buffer }

module _ {mark : Mark} {o : Outcome} {r : Turned} {had left was holds blank told : List ℕ} (t : Turns mark o r had left was holds blank told) where
  -- the image that the next record meets
  pub turned_image : take r.held.size left ≡ o.image
  turned_image = front_laid had t.size t.image

  -- what is handed over is the record's line
  pub turned_line : take r.len told ≡ line_of mark o
  turned_line = puts_front t.line
