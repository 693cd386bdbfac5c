-- "No answer is longer than 267 bytes": ten of the header, and at most 257 of data, P3 being a byte.
use mathlib.Core.Path.{◌≡◌}
use Prim.Native.Nat.{ℕ, ◌≤◌, ◌<◌}
use mathlib.Core.Bool.{true}
use mathlib.Core.List.{List, []}
use native.Mathlib.Omega.{arith}
use lib.ListN.{length, length-take}
use borrow.Author.Tests.{not-false}
use Rattle.std.specs.Prelude.{Option, Some, None}
use Rattle.words.specs.Bytes.{four_bytes}
use Rattle.words.specs.Bounds.{longest_answer}
use Rattle.words.proofs.Choices.{past, either}
use Rattle.chips.specs.declared.Facts.{Facts}
use Rattle.chips.specs.Kinds.{facts}
use Rattle.sets.specs.Sets.{default_set, set_of}
use Rattle.sets.proofs.SetLaws.{bytes_short}
use Rattle.card.proofs.ImageLaws.{card_parts}
use Rattle.slot.specs.declared.Slot.{Slot}
use Rattle.sound.specs.Sound.{image_is_card}
use Rattle.steps.specs.Steps.{p3, body, order}
use Rattle.steps.proofs.Decisions.{order_fits, order_short}
use Rattle.orders.specs.Orders.{Deed, commanded, performed}
use Rattle.orders.proofs.Lengths.{said_short}
use Rattle.std.specs.Prelude.{Option}
use Rattle.faults.specs.declared.Fault.{Fault}
use Rattle.faults.specs.declared.Request.{Request}
use Rattle.faults.specs.declared.Request.TheVariants.{SetParameters, PowerOn, PowerOff, SlotStatus, GetParameters, ResetParameters, Transfer, Unsupported}
use Rattle.faults.specs.Faults.{apdu, type_byte, request_of, fault_of}
use Rattle.frame.specs.Answers.{header, answer}
use Rattle.frame.specs.Exchange.{Outcome, reset, deed, replied, reply, served, exchange}
use Rattle.chips.specs.declared.Chip.{Chip}

reset_short_lem : (f : Facts) (image : List ℕ) → length (reset f image) ≤ 257
unfolding reset
reset_short_lem f image = either (λ (l : List ℕ). length l ≤ 257) _ (λ _. omega arith) (λ _. omega (arith, length-take 4 image))

module _ (s : Slot) (image m : List ℕ) (byte : p3 (apdu m) < 256) where
  deed_short : (r : Request) (h : Option Chip) → image_is_card h image ≡ true → length (deed r h s image m).said ≤ 257
  unfolding deed commanded performed
  deed_short SetParameters h e = omega (arith, bytes_short (set_of m))
  deed_short PowerOn None e = omega arith
  deed_short PowerOn (Some chip) e = reset_short_lem (facts chip) image
  deed_short PowerOff h e = omega arith
  deed_short SlotStatus h e = omega arith
  deed_short GetParameters h e = omega (arith, bytes_short s.set)
  deed_short ResetParameters h e = omega (arith, bytes_short default_set)
  deed_short Transfer None e = omega arith
  deed_short Transfer (Some chip) e =
      said_short chip s image (body (apdu m)) (order (facts chip) s (apdu m)) (card_parts (facts chip) image e).long
      (order_fits (facts chip) s (apdu m)) (order_short (facts chip) s (apdu m) byte)
  deed_short Unsupported h e = omega arith

  answer_whole : (r : Request) (f : Option Fault) (t : Slot) (said : List ℕ) → length said ≤ 257 → length (answer r m f t said) ≤ longest_answer
  unfolding answer header four_bytes
  answer_whole r f t said h = omega arith

  reply_short : (r : Request) → image_is_card s.holds image ≡ true → length (reply r s image m).answer ≤ longest_answer
  unfolding reply replied
  reply_short r e =
      either (λ (d : Deed). length (answer r m (fault_of r s m) d.slot d.said) ≤ longest_answer) _
      (λ _. answer_whole r (fault_of r s m) _ _ (deed_short r s.holds e))
      (λ _. answer_whole r (fault_of r s m) s [] (omega arith))

  pub served_short : length (served s image m).answer ≤ longest_answer
  unfolding served
  served_short =
      past (λ (o : Outcome). length o.answer ≤ longest_answer) _ (omega arith) (λ e.
      past (λ (o : Outcome). length o.answer ≤ longest_answer) _ (omega arith) (λ _.
      reply_short (request_of (type_byte m)) (not-false _ e)))

  pub answer_short : (room : ℕ) → length (exchange s image m room).answer ≤ longest_answer
  unfolding exchange
  answer_short room =
      past (λ (o : Outcome). length o.answer ≤ longest_answer) _ (omega arith) (λ _.
      past (λ (o : Outcome). length o.answer ≤ longest_answer) _ (omega arith) (λ _. served_short))
