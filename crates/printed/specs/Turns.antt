-- What a turn of a session leaves behind: the next line of what is printed, what is held, and every byte of what was lent.
use Rattle.std.specs.Prelude.{ℕ, ◌≡◌, List, length}
use Rattle.words.specs.Bytes.{over}
use Rattle.frame.specs.Exchange.{Outcome}
use Rattle.records.specs.declared.Mark.{Mark}
use Rattle.lines.specs.Lines.{Puts}
use Rattle.printed.specs.declared.Turned.{Turned}
use Rattle.printed.specs.Printed.{line_of}

-- where o comes of the record: the line at the front of the lent buffer, the next slot, how long the held image is, and the image and the
-- answer, laid over what the lent image and the lent answer buffer held
pub record Turns (mark : Mark) (o : Outcome) (r : Turned) (had left was holds blank told : List ℕ) : Type 0 where
  pub line : Puts (line_of mark o) r.len blank told
  pub slot : r.held.slot ≡ o.slot
  pub size : r.held.size ≡ length o.image
  pub image : left ≡ over o.image had
  pub buffer : holds ≡ over o.answer was
