-- The course that the loop of `session` takes, by the contracts of `bring`, `turn` and `leave` alone: the bytes that come in and the bytes
-- that are handed over, until it stops.
use Rattle.std.specs.Prelude.{ℕ, ◌+◌, ◌≡◌, false, List, ◌++◌, take, Ok}
use Rattle.std.specs.declared.option.Option.{Option}
use Rattle.std.specs.Io.KnownBytes.{Consumes, Appends}
use Rattle.slot.specs.Slots.{removed}
use Rattle.records.specs.declared.Record.{Record}
use Rattle.records.specs.Records.{Found}
use Rattle.sitting.specs.declared.Held.{Held}
use Rattle.lines.specs.Lines.{Puts}
use Rattle.input.specs.declared.Brought.{Brought}
use Rattle.input.specs.Input.{part, Brings}
use Rattle.printed.specs.declared.Turned.{Turned}
use Rattle.printed.specs.Printed.{comes_of, whole, parting, Unread, printed}
use Rattle.printed.specs.Turns.{Turns}

-- The buffer with the place and the end of its unused bytes, what is held and the lent image; then what comes in and what is handed over.
pub data Course : List ℕ → ℕ → ℕ → Held → List ℕ → List ℕ → List ℕ → Type 0 where
  -- a whole record is brought: it is done, its line is handed over, and the loop goes on with what is left and what is held then
  turns : {input left image kept was holds blank told came handed : List ℕ} {at end : ℕ} {r : Record} {h : Held} {b : Brought} {t : Turned}
      → (p : Brings input at end left b) → b.found ≡ Ok r
      → Turns r.mark (comes_of r.mark (part left (b.at + r.start) (b.at + r.end)) h.slot (take h.size image)) t image kept was holds blank told
      → Course left (b.at + r.end) b.end t.held kept came handed
      → Course input at end h image (p.unused.came ++ came) (take t.len told ++ handed)
  -- another reading: what is printed then is handed over, and what stands unread is nothing, or whatever is behind a bad record
  stops : {input left image blank told : List ℕ} {at end n : ℕ} {h : Held} {b : Brought} (unread : List ℕ) → (p : Brings input at end left b)
      → whole b.found ≡ false → Unread b.found unread → Puts (parting b.found) n blank told
      → Course input at end h image (p.unused.came ++ unread) (take n told)

-- A session ran its course: it started with the empty sound slot and no image, and stopped at a reading. What it handed over is `printed` of what
-- came and whatever stands unread behind it (`ran_prints`).
pub record Ran (input image : List ℕ) : Type 0 where
  pub held : Held
  pub empty : held.slot ≡ removed
  pub none : held.size ≡ 0
  pub last : Found
  pub came : List ℕ
  pub handed : List ℕ
  pub course : (unread : List ℕ) → Unread last unread → Course input 0 0 held image (came ++ unread) handed

-- A session ran its course between a reader and a writer: what came was taken from the one, what was handed over was written to the other, where
-- it is known what they have, and that is `printed` of what came and whatever stands unread behind it.
pub record Passed (read read' written written' : Option (List ℕ)) (input image : List ℕ) : Type 0 where
  pub ran : Ran input image
  pub taken : Consumes read read' ran.came
  pub given : Appends written written' ran.handed
  pub prints : (unread : List ℕ) → Unread ran.last unread → ran.handed ≡ printed (ran.came ++ unread)

-- The loop has come from the first state to the second: these bytes came in and those were handed over, and whatever course goes on from
-- here is one from there. Its invariant.
pub record Since (input : List ℕ) (h : Held) (image input' : List ℕ) (at end : ℕ) (h' : Held) (image' : List ℕ) : Type 0 where
  pub came : List ℕ
  pub handed : List ℕ
  pub goes : (c d : List ℕ) → Course input' at end h' image' c d → Course input 0 0 h image (came ++ c) (handed ++ d)

-- and these bytes were taken from the reader and written to the writer
pub record Between (read read' written written' : Option (List ℕ)) (input : List ℕ) (h : Held) (image input' : List ℕ) (at end : ℕ) (h' : Held)
    (image' : List ℕ) : Type 0 where
  pub since : Since input h image input' at end h' image'
  pub taken : Consumes read read' since.came
  pub given : Appends written written' since.handed
