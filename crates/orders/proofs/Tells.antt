-- What a handler leaves in the lent buffer: its data, and 90 00 behind them.
use Rattle.std.specs.Prelude.{Result}
use mathlib.Core.Path.{◌≡◌, sym, ap, ◌∙◌, subst⁻¹}
use Prim.Native.Nat.{ℕ, ◌+◌, ◌≤◌}
use mathlib.Core.List.{List, ◌++◌}
use lib.ListN.{length, set, length-append}
use Rattle.words.specs.Bytes.{over}
use Rattle.words.proofs.Lists.{over_two}
use Rattle.chips.specs.declared.Facts.{Facts}
use Rattle.slot.specs.declared.Slot.{Slot}
use Rattle.steps.specs.declared.Status.{Status}
use Rattle.steps.specs.declared.Order.{Order}
use Rattle.orders.specs.declared.Told.{Told}
use Rattle.orders.specs.Orders.{Does, done, said_by, slot_by, image_by, performed}

pub over_done : (b d : List ℕ) (n : ℕ) {mid out : List ℕ} → length b ≡ n → n + 2 ≤ length d → mid ≡ over b d → out ≡ set (set mid n 0x90) (n + 1) 0x00 → out ≡ over (b ++ done) d
over_done b d n e h p q = q ∙ ap (λ (m : List ℕ). set (set m n 0x90) (n + 1) 0x00) p ∙ over_two b d n 0x90 0x00 e h

-- a handler that lays data d into the buffer and puts 90 00 behind them, and leaves slot and image, does an order that says so
pub does_tell : (f : Facts) (s : Slot) (image b : List ℕ) (o : Result Order Status) (d : List ℕ) (n : ℕ) {t : Told} {was mid holds : List ℕ}
    → said_by f s image b o ≡ d ++ done → slot_by f s image b o ≡ s → image_by f s image b o ≡ image → length d ≡ n → n + 2 ≤ length was
    → mid ≡ over d was → t.len ≡ n + 2 → t.slot ≡ s → holds ≡ set (set mid n 0x90) (n + 1) 0x00
    → Does (performed f s image b o) t image was holds
unfolding performed
does_tell f s image b o d n {t} {was} said kept still long room laid len slot put = record {
  len = len ∙ sym (ap length said ∙ length-append d done ∙ ap (λ (k : ℕ). k + 2) long);
  slot = slot ∙ sym kept;
  image = sym still;
  out = over_done d was n long room laid put ∙ ap (λ (l : List ℕ). over l was) (sym said);
}

-- what an order's handler leaves is what the order leaves
pub does_by : (f : Facts) (s : Slot) (image b : List ℕ) {o o' : Result Order Status} {t : Told} {l w h : List ℕ} → o ≡ o' → Does (performed f s image b o') t l w h
    → Does (performed f s image b o) t l w h
does_by f s image b {o} {o'} {t} {l} {w} {h} e g = subst⁻¹ (λ (x : Result Order Status). Does (performed f s image b x) t l w h) e g
