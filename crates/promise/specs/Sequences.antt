-- Sequences of calls, each on what the last one left: every record, image and buffer that the functions' contracts allow.
use Rattle.std.specs.Prelude.{ℕ, List, [], ◌∷◌, length, take, ℤ}
use Rattle.words.specs.Bounds.{least_room}
use Rattle.records.specs.declared.Mark.{Mark}
use Rattle.reader.specs.Runs.{Sent}
use Rattle.calls.specs.Calls.{raw_exchange, Returns}
use Rattle.sitting.specs.declared.Held.{Held}
use Rattle.sitting.specs.declared.Done.{Done}
use Rattle.sitting.specs.Sittings.{outcome_of, Leaves}

-- a message, and a lent answer buffer of so many bytes
abbrev pub sent_with : List ℕ → ℕ → Sent
sent_with m n = record { message = m; room = n }

-- ---- calls of `card_reader_message`: from a raw record and an image to those after the last call
pub data Called : List ℕ → List ℕ → List Sent → List ℕ → List ℕ → Type 0 where
  hung : (r image : List ℕ) → Called r image [] r image
  called : {r image : List ℕ} (m was : List ℕ) {n : ℤ} {left next holds : List ℕ} {ms : List Sent} {r' image' : List ℕ}
      → Returns (raw_exchange r image m (length was)) n left next was holds
      → Called left next ms r' image'
      → Called r image (sent_with m (length was) ∷ ms) r' image'

-- ---- messages by `sitting::perform`: from what is held and the lent image to those after the last record
pub data Sat : Held → List ℕ → List Sent → Held → List ℕ → Type 0 where
  stood : (h : Held) (had : List ℕ) → Sat h had [] h had
  sat : {h : Held} {had : List ℕ} (m : List ℕ) {d : Done} {left was holds : List ℕ} {ms : List Sent} {h' : Held} {left' : List ℕ}
      → Leaves (outcome_of Mark.Message m h.slot (take h.size had) least_room) d had left was holds
      → Sat d.held left ms h' left'
      → Sat h had (sent_with m least_room ∷ ms) h' left'

-- ---- such a sequence, wherever it ends
pub record SomeCalls (r image : List ℕ) (ms : List Sent) : Type 0 where
  pub left : List ℕ
  pub next : List ℕ
  pub sequence : Called r image ms left next

pub record SomeSitting (h : Held) (had : List ℕ) (ms : List Sent) : Type 0 where
  pub held : Held
  pub left : List ℕ
  pub sequence : Sat h had ms held left
