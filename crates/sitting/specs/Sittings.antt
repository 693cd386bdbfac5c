-- What a record of a session does: the number it prints, the answer, and the slot and the image that are held afterwards.
use Rattle.std.specs.Prelude.{◌≡◌, ℕ, Bool, List, [], length, drop}
use Rattle.words.specs.Choice.{◌⇒◌⁏◌, ◌or◌, ◌is◌}
use Rattle.words.specs.Bytes.{byte, over}
use Rattle.slot.specs.declared.Slot.{Slot}
use Rattle.slot.specs.Slots.{removed}
use Rattle.frame.specs.Exchange.{Outcome, exchange, insertion}
use Rattle.records.specs.declared.Mark.{Mark}
use Rattle.records.specs.declared.Mark.TheVariants.{Insert, Remove, Message}
use Rattle.sitting.specs.declared.Done.{Done}

-- an insertion that is accepted has its card's image held from now on; turned down, what was held stays
unfoldable pub holding : Outcome → List ℕ → Outcome
holding o image = record { number = o.number; answer = o.answer; slot = o.slot; image = o.number is 0 ⇒ o.image ⁏ image }

-- 02: "the program takes kinds 10 and 11 as unknown": for 0, which is no kind
abbrev pub unknown_here : ℕ → Bool
unknown_here kind = kind is 10 or kind is 11

unfoldable pub taken_for : ℕ → ℕ
taken_for kind = unknown_here kind ⇒ 0 ⁏ kind

abbrev pub inserting : Slot → ℕ → List ℕ → List ℕ → Outcome
inserting s kind card image = holding (insertion s (taken_for kind) card) image

-- "Removal always gives the empty sound slot and is never turned down": no image is held
abbrev pub taken_out : Outcome
taken_out = record { number = 0; answer = []; slot = removed; image = [] }

-- "43 49 insert (kind byte, image), 43 4F remove (empty body), 4F 4D message"; "An insert with an empty body counts as one of unknown
-- kind": its kind byte reads as 0, which is no kind. A new mark is a new line.
unfoldable pub outcome_of : Mark → List ℕ → Slot → List ℕ → ℕ → Outcome
outcome_of Insert body s image room = inserting s (byte body 0) (drop 1 body) image
outcome_of Remove body s image room = taken_out
outcome_of Message body s image room = exchange s image body room

-- What a record leaves where o is to come of it: the number, the answer's length, the next slot, how long the held image is, and every
-- byte of the lent image and of the lent answer buffer: what is held, and the answer, laid over what they held.
pub record Leaves (o : Outcome) (r : Done) (had left was holds : List ℕ) : Type 0 where
  pub number : r.number ≡ o.number
  pub len : r.len ≡ length o.answer
  pub slot : r.held.slot ≡ o.slot
  pub size : r.held.size ≡ length o.image
  pub image : left ≡ over o.image had
  pub buffer : holds ≡ over o.answer was
