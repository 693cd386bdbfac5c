-- A D0 on a card with pages leaves what the page rule says (`Paged`), whatever the chip: where the reader page divides the chip page, which of the five
-- is "at most", exactly the named range holds the data; otherwise each cut stays in its chip page.
use Prim.Native.Nat.{ℕ, ◌+◌, ◌%◌, ◌≤◌, ◌<◌}
use mathlib.Core.Path.{◌≡◌, ap, ◌∙◌, subst⁻¹}
use mathlib.Core.Bool.{true, not}
use mathlib.Core.List.{List, ◌++◌}
use native.Mathlib.Omega.{arith}
use lib.ListN.{length, take, drop}
use lib.IntN.{ℤ}
use borrow.Author.Tests.{ne_eqb}
use Rattle.std.specs.Prelude.{Some}
use Rattle.words.specs.Bounds.{least_room}
use Rattle.words.proofs.Choices.{first}
use Rattle.records.specs.declared.Mark.{Mark}
use Rattle.chips.specs.declared.Chip.{Chip}
use Rattle.chips.specs.declared.Facts.{Facts}
use Rattle.chips.specs.Kinds.{facts}
use Rattle.chips.proofs.KindLaws.{laid, whole_pages}
use Rattle.slot.specs.declared.Slot.{Slot}
use Rattle.pages.specs.Pages.{page_write}
use Rattle.pages.specs.Cuts.{Paged}
use Rattle.pages.proofs.CutLaws.{page_rule}
use Rattle.record.specs.Raw.{raw_of}
use Rattle.sound.specs.Sound.{page_size}
use Rattle.sound.proofs.SoundLaws.{sound_parts}
use Rattle.orders.specs.Orders.{written, image_by, performed}
use Rattle.frame.specs.Exchange.{Outcome}
use Rattle.frame.proofs.AnswerLaws.{page_some}
use Rattle.reader.specs.Runs.{Sent, sending}
use Rattle.reader.proofs.Came.{heard_proper}
use Rattle.calls.specs.Calls.{raw_exchange, Returns}
use Rattle.sitting.specs.declared.Held.{Held}
use Rattle.sitting.specs.declared.Done.{Done}
use Rattle.sitting.specs.Sittings.{outcome_of, Leaves}
use Rattle.promise.specs.Stored.{Writes, sent_by}
use Rattle.promise.proofs.Sequences.{call_image, sitting_image}
use Rattle.promise.proofs.Stored.{write_does, write_card, write_inside}
use Rattle.promise.proofs.Pages.{range_holds}

module _ (chip : Chip) (s : Slot) (image : List ℕ) (m : Sent) (at : ℕ) (holds : s.holds ≡ Some chip) (w : Writes (facts chip) s image m at)
    (some : 0 < (facts chip).page) where
  abbrev f : Facts
  f = facts chip

  abbrev b : List ℕ
  b = sent_by m

  paged : (sending s image m).image ≡ page_write s.page f.page image at at b
  unfolding performed image_by written
  paged = ap (λ (o : Outcome). o.image) (write_does chip s image m at holds w) ∙ first _ _ (ap not (ne_eqb f.page 0 (λ e. omega arith)))

  sized : page_size s.page ≡ true
  sized = (sound_parts s image (heard_proper s image m w.is_heard).sound).sized

  room : at + length b ≤ length image
  room = omega (arith, write_inside chip s image m at holds w, (laid chip).front, (write_card chip s image m at holds w).long)

  whole : length image % f.page ≡ 0
  whole = ap (λ (n : ℕ). n % f.page) (write_card chip s image m at holds w).long ∙ whole_pages chip some

  pub message_paged : Paged s.page f.page image at b (sending s image m).image
  message_paged = subst⁻¹ (Paged s.page f.page image at b) paged (page_rule s.page f.page (page_some s.page sized) some image at b room whole)

  -- "Where reader page is at most chip page, exactly the named range holds the data"
  pub message_range : s.page ≤ f.page → (sending s image m).image ≡ take at image ++ b ++ drop (at + length b) image
  message_range h = paged ∙ range_holds chip s.page sized h image at b room

  -- ---- and so by a call of `card_reader_message`, and by `sitting::perform`
  pub call_paged : {n : ℤ} {left next was held : List ℕ} → Returns (raw_exchange (raw_of s) image m.message m.room) n left next was held
      → Paged s.page f.page image at b next
  call_paged g = subst⁻¹ (Paged s.page f.page image at b) (call_image s image m g) message_paged

  pub sitting_paged : (before : Held) (had : List ℕ) → before.slot ≡ s → take before.size had ≡ image → m.room ≡ least_room
      → {d : Done} {left was out : List ℕ} → Leaves (outcome_of Mark.Message m.message before.slot (take before.size had) least_room) d had left was out
      → Paged s.page f.page image at b (take d.held.size left)
  sitting_paged h had p q r g = subst⁻¹ (Paged s.page f.page image at b) (sitting_image h had s image m p q r g) message_paged
