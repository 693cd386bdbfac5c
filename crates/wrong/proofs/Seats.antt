-- A command to a `seated` card does what the rules say, and in a reader whose commands do something else it does that.
use Prim.Native.Nat.{ℕ, ◌<◌}
use mathlib.Core.Path.{◌≡◌, refl}
use mathlib.Core.Bool.{Bool, true}
use mathlib.Core.List.{List}
use native.Mathlib.Omega.{arith}
use lib.ListN.{length}
use lib.Dec.{leb}
use borrow.Author.Tests.{eqb-false, not-true}
use Rattle.words.specs.Bounds.{least_room}
use Rattle.words.proofs.Choices.{first, both, and_true}
use Rattle.chips.specs.declared.Chip.{Chip}
use Rattle.chips.specs.Kinds.{facts}
use Rattle.sound.specs.Sound.{page_size}
use Rattle.std.specs.Prelude.{None}
use Rattle.faults.specs.declared.Request.TheVariants.{Transfer}
use Rattle.faults.specs.Faults.{type_byte, apdu, request_of, fault_of, is_clear}
use Rattle.orders.specs.Orders.{commanded}
use Rattle.frame.specs.Exchange.{answered, exchange}
use Rattle.reader.specs.Heard.{transfers}
use Rattle.vectors.specs.Sessions.{selected_slot}
use Rattle.promise.specs.Sequences.{sent_with}
use Rattle.promise.specs.Seats.{seated, seat_image}
use Rattle.promise.proofs.Reached.{transfer_does}
use Rattle.promise.proofs.Seats.{seat_transfer, seat_heard}
use Rattle.wrong.specs.Wrong.{Doer, commanding_on, commanding}
use Rattle.wrong.specs.Caught.{seats}

-- what `seats` tests
pub record Seated (chip : Chip) (chosen : Bool) (page : ℕ) (m : List ℕ) : Type 0 where
  pub some : 0 < (facts chip).page
  pub sized : page_size page ≡ true
  pub header : leb 10 (length m) ≡ true
  pub asked : transfers (request_of (type_byte m)) ≡ true
  pub clear : is_clear (fault_of Transfer (seated chip chosen page) m) ≡ true

pub seats_parts : (chip : Chip) (chosen : Bool) (page : ℕ) (m : List ℕ) → seats chip chosen page m ≡ true → Seated chip chosen page m
unfolding seats
seats_parts chip chosen page m e =
    let t1 = and_true _ _ e in
    let t2 = and_true _ _ t1.1 in
    let t3 = and_true _ _ t2.1 in
    let t4 = and_true _ _ t3.1 in
    record {
      some = omega (arith, eqb-false (facts chip).page 0 (not-true _ t1.0));
      sized = t2.0;
      header = t3.0;
      asked = t4.0;
      clear = t4.1;
    }

module _ (chip : Chip) (chosen : Bool) (page : ℕ) (m : List ℕ) (c : Seated chip chosen page m) where
  pub seat_ours : exchange (seated chip chosen page) (seat_image chip) m least_room
      ≡ answered Transfer m None (commanded (facts chip) (seated chip chosen page) (seat_image chip) (apdu m))
  unfolding selected_slot commanded
  seat_ours =
      transfer_does chip (seated chip chosen page) (seat_image chip) (sent_with m least_room) refl
      (seat_heard chip c.some chosen page c.sized m c.header c.asked c.clear)
      (seat_transfer chip c.some chosen page c.sized m c.header c.asked c.clear)

  pub seat_does : (does : Doer) → commanding does (seated chip chosen page) (seat_image chip) m least_room
      ≡ answered Transfer m None (does (facts chip) (seated chip chosen page) (seat_image chip) (apdu m))
  unfolding selected_slot commanding_on
  seat_does does = first _ _ (both (seat_heard chip c.some chosen page c.sized m c.header c.asked c.clear) c.asked)
