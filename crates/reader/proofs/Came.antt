-- What comes of a message, taken apart once: it is turned down, or fails, or is heard and obeyed.
use Prim.Native.Nat.{ℕ}
use mathlib.Core.Path.{◌≡◌, sym}
use mathlib.Core.Bool.{true, false}
use mathlib.Core.List.{List}
use lib.ListN.{length}
use lib.Dec.{leb}
use borrow.Author.Tests.{ltb-true, ltb-false, lt-leb, le-leb, not-true, not-false}
use Rattle.words.specs.Bounds.{least_room}
use Rattle.words.proofs.Choices.{either, and_true, and_fails, and_holds, both}
use Rattle.slot.specs.declared.Slot.{Slot}
use Rattle.sound.specs.Sound.{image_is_card, sound}
use Rattle.orders.specs.Orders.{Deed}
use Rattle.faults.specs.Faults.{is_clear}
use Rattle.frame.specs.declared.Refusal.{Refusal}
use Rattle.frame.specs.Exchange.{Outcome, turned_down, idle, deed, answered, replied, reply, served, exchange}
use Rattle.reader.specs.Runs.{Sent, sending}
use Rattle.reader.specs.Proper.{Proper}
use Rattle.reader.specs.Heard.{requested, faulted, heard}

pub data Came (s : Slot) (image : List ℕ) (m : Sent) : Outcome → Type 0 where
  down : (r : Refusal) → heard s image m ≡ false → Came s image m (turned_down r s image)
  failed : Proper s image → heard s image m ≡ false → Came s image m (answered (requested m) m.message (faulted s m) (idle s image))
  obeyed : heard s image m ≡ true → Came s image m (answered (requested m) m.message (faulted s m) (deed (requested m) s.holds s image m.message))

pub came : (s : Slot) (image : List ℕ) (m : Sent) → Came s image m (sending s image m)
unfolding exchange served reply replied heard
came s image m =
    either (Came s image m) _ (λ e. down Refusal.Buffer (sym (and_fails _ (lt-leb least_room m.room (ltb-true _ _ e))))) (λ e1.
    let h1 : leb least_room m.room ≡ true = le-leb least_room m.room (ltb-false _ _ e1) in
    either (Came s image m) _ (λ e. down Refusal.Message (sym (and_holds h1 (and_fails _ (lt-leb 10 (length m.message) (ltb-true _ _ e)))))) (λ e2.
    let h2 : leb 10 (length m.message) ≡ true = le-leb 10 (length m.message) (ltb-false _ _ e2) in
    either (Came s image m) _ (λ e. down Refusal.Image (sym (and_holds h1 (and_holds h2 (and_fails _ (not-true _ e)))))) (λ e3.
    let h3 : image_is_card s.holds image ≡ true = not-false _ e3 in
    either (Came s image m) _ (λ e. down Refusal.Record (sym (and_holds h1 (and_holds h2 (and_holds h3 (and_fails _ (not-true _ e))))))) (λ e4.
    let h4 : sound s image ≡ true = not-false _ e4 in
    either (λ (d : Deed). Came s image m (answered (requested m) m.message (faulted s m) d)) (is_clear (faulted s m))
    (λ e. obeyed (both h1 (both h2 (both h3 (both h4 e)))))
    (λ e. failed (record { card = h3; sound = h4 }) (sym (and_holds h1 (and_holds h2 (and_holds h3 (and_holds h4 (sym e)))))))))))

-- ---- what a heard message may count on
pub heard_proper : (s : Slot) (image : List ℕ) (m : Sent) → heard s image m ≡ true → Proper s image
unfolding heard
heard_proper s image m e =
    let t = and_true _ _ (and_true _ _ (and_true _ _ e).1).1 in
    record { card = t.0; sound = (and_true _ _ t.1).0 }

pub heard_clear : (s : Slot) (image : List ℕ) (m : Sent) → heard s image m ≡ true → is_clear (faulted s m) ≡ true
unfolding heard
heard_clear s image m e = (and_true _ _ (and_true _ _ (and_true _ _ (and_true _ _ e).1).1).1).1
