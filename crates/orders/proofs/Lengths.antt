-- What a command says is at most 257 bytes: a read of at most 255, and the status word.
use Rattle.std.specs.Prelude.{Result, Ok, Err}
use mathlib.Core.Path.{◌≡◌, refl}
use Prim.Native.Nat.{ℕ, ◌≤◌}
use mathlib.Core.List.{List}
use native.Mathlib.Omega.{arith}
use lib.ListN.{length, length-append}
use Rattle.words.proofs.Choices.{either}
use Rattle.chips.specs.declared.Chip.{Chip}
use Rattle.chips.specs.Kinds.{facts}
use Rattle.bits.specs.Bits.{packed_bytes}
use Rattle.chips.proofs.KindLaws.{laid}
use Rattle.slot.specs.declared.Slot.{Slot}
use Rattle.reads.specs.Reads.{bytes_read, counter_read}
use Rattle.reads.proofs.ReadLaws.{length_bytes_read, length_counter_read}
use Rattle.bits.proofs.PackLaws.{length_packed_bytes}
use Rattle.steps.specs.declared.Status.{Status}
use Rattle.steps.specs.declared.Order.{Order}
use Rattle.steps.specs.Steps.{word_of}
use Rattle.steps.specs.Fits.{Fit, Short}
use Rattle.orders.specs.Orders.{done, said_by, written_word}

length_word : (status : Status) → length (word_of status) ≡ 2
length_word Status.Length = refl
length_word Status.Class = refl
length_word Status.Instruction = refl
length_word Status.Unselected = refl
length_word Status.Place = refl
length_word Status.Value = refl
length_word Status.Denied = refl

pub said_short : (chip : Chip) (s : Slot) (image b : List ℕ) (o : Result Order Status) → length image ≡ (facts chip).size → Fit (facts chip) b o → Short o
    → length (said_by (facts chip) s image b o) ≤ 257
unfolding said_by written_word
said_short chip s image b (Err status) e h k = omega (arith, length_word status)
said_short chip s image b (Ok Order.Select) e h k = omega arith
said_short chip s image b (Ok (Order.Page p)) e h k = omega arith
said_short chip s image b (Ok (Order.Read at n)) e h k =
    let f = facts chip in
    let d : List ℕ = bytes_read f.code f.digits s.«open» image at n in
    omega (arith, length-append d done, length_bytes_read f.code f.digits s.«open» image at n (omega (arith, (laid chip).front, h.0)))
said_short chip s image b (Ok (Order.Counter n)) e h k =
    let f = facts chip in
    omega (arith, length-append (counter_read f.counter image n) done, length_counter_read f.counter image n (omega (arith, h.1)), h.1, (laid chip).digits)
said_short chip s image b (Ok (Order.Bits at n)) e h k =
    let f = facts chip in
    omega (arith, length-append (packed_bytes f.bits f.covered image at n) done, length_packed_bytes f.bits f.covered image at n, h.1)
said_short chip s image b (Ok (Order.Write at)) e h k = either (λ (l : List ℕ). length l ≤ 257) _ (λ _. omega arith) (λ _. omega arith)
said_short chip s image b (Ok (Order.Protect at)) e h k = omega arith
said_short chip s image b (Ok Order.Present) e h k = omega arith
said_short chip s image b (Ok Order.Change) e h k = omega arith
