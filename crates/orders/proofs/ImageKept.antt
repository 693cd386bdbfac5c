-- What an order leaves of the image: its length and the bytes that have to be 00h always, the counter unless a code is presented, the
-- protection bytes unless D1 protects, and being a card of its kind; while the card is closed nothing but a presented code changes a byte of a code card.
use Rattle.std.specs.Prelude.{Result, Ok, Err}
use mathlib.Core.Path.{◌≡◌, refl, sym, ap, ◌∙◌, subst⁻¹}
use mathlib.Core.List.{List}
use mathlib.Core.Bool.{Bool, true, false, not, true≢false}
use mathlib.Core.Logic.{◌⊎◌, inl, inr, ◌≢◌}
use Prim.Native.Nat.{ℕ, ◌+◌, ◌/◌, ◌≤◌, ◌<◌}
use native.Mathlib.Omega.{arith}
use lib.ListN.{length, drop, get_or-eq_default}
use lib.Seq.{sets, length-sets}
use lib.Dec.{ltb}
use borrow.Author.Tests.{eq-eqb, ltb-true, ltb-false}
use Rattle.words.specs.Choice.{◌and◌}
use Rattle.words.specs.Bytes.{byte, blank}
use Rattle.words.proofs.Choices.{either, rest}
use Rattle.words.proofs.Lists.{byte_sets, blank_byte, byte_blank}
use Rattle.chips.specs.declared.Chip.{Chip}
use Rattle.chips.specs.declared.Facts.{Facts}
use Rattle.chips.specs.Kinds.{facts}
use Rattle.bits.specs.Bits.{protection_bit, is_protected}
use Rattle.codes.proofs.CounterLaws.{spent_le}
use Rattle.bits.proofs.ProtectionLaws.{length_protect_equal, byte_protect_equal, protected_beyond}
use Rattle.bits.proofs.BitLaws.{bit_protect_equal, bit_same, protected_same}
use Rattle.bits.proofs.CountLaws.{count_same}
use Rattle.chips.proofs.KindLaws.{Clear, Coded, coded, Guarded, guarded, zeroed, Bitted, bitted}
use Rattle.card.proofs.ImageLaws.{IsCard, plain_card}
use Rattle.slot.specs.declared.Slot.{Slot}
use Rattle.counts.specs.Counts.{count_in}
use Rattle.pages.proofs.PageLaws.{length_page_write}
use Rattle.stores.specs.Stores.{storing}
use Rattle.stores.proofs.StoreLaws.{length_storing, byte_outside}
use Rattle.codes.proofs.CodeLaws.{presenting_either, length_presenting, byte_presenting, byte_spending, byte_full}
use Rattle.steps.specs.declared.Status.{Status}
use Rattle.steps.specs.declared.Order.{Order}
use Rattle.steps.specs.declared.Ins.{Ins}
use Rattle.steps.specs.declared.Ins.TheVariants.{Select, Page, Read, Counter, Bits, Write, Protect, Present, Change, Other}
use Rattle.steps.specs.Steps.{p3, body, ordered, presents, order}
use Rattle.orders.specs.Orders.{after_code, written, image_by}
use Rattle.steps.proofs.Decisions.{Passed, Decided, refused, through, decided}
use Rattle.steps.proofs.PresentAgain.{presents_is}
use Rattle.steps.specs.Fits.{Fit}

-- ---- the length
module _ (f : Facts) (s : Slot) (image b : List ℕ) where
  length_written : (page at : ℕ) → length (written f page image at b) ≡ length image
  unfolding written
  length_written page at =
      either (λ (l : List ℕ). length l ≡ length image) _ (λ _. length_page_write page f.page image at at b) (λ _. length_storing f.bits f.covered image at b)

  pub length_image_by : (o : Result Order Status) → length (image_by f s image b o) ≡ length image
  unfolding image_by
  length_image_by (Err status) = refl
  length_image_by (Ok Order.Select) = refl
  length_image_by (Ok (Order.Page p)) = refl
  length_image_by (Ok (Order.Read at n)) = refl
  length_image_by (Ok (Order.Counter n)) = refl
  length_image_by (Ok (Order.Bits at n)) = refl
  length_image_by (Ok (Order.Write at)) = length_written s.page at
  length_image_by (Ok (Order.Protect at)) = length_protect_equal f.bits f.covered image at b
  length_image_by (Ok Order.Present) = length_presenting f.counter f.full f.code f.digits image b
  length_image_by (Ok Order.Change) = length-sets image f.code b

  -- a card without pages stores the bytes that are not protected
  pub written_stores : f.page ≡ 0 → (page at : ℕ) → written f page image at b ≡ storing f.bits f.covered image at b
  unfolding written
  written_stores e page at = rest _ _ (ap not (eq-eqb _ _ e))

  -- and leaves every other byte
  pub byte_written : f.page ≡ 0 → (page at k : ℕ) → (k < at) ⊎ (at + length b ≤ k) → byte (written f page image at b) k ≡ byte image k
  byte_written e page at k h = ap (λ (l : List ℕ). byte l k) (written_stores e page at) ∙ byte_outside f.bits f.covered image at b k h

-- ---- the counter, and its protection bit
module _ (f : Facts) (c : Coded f) (s : Slot) (image b : List ℕ) where
  -- an order that presents no code leaves the counter
  pub counter_kept : (o : Result Order Status) → Fit f b o → presents o ≡ false → byte (image_by f s image b o) f.counter ≡ byte image f.counter
  unfolding image_by
  counter_kept (Err status) h ne = refl
  counter_kept (Ok Order.Select) h ne = refl
  counter_kept (Ok (Order.Page p)) h ne = refl
  counter_kept (Ok (Order.Read at n)) h ne = refl
  counter_kept (Ok (Order.Counter n)) h ne = refl
  counter_kept (Ok (Order.Bits at n)) h ne = refl
  counter_kept (Ok (Order.Write at)) h ne = byte_written f s image b c.pageless s.page at f.counter (go h.2)
    where
      go : (at + length b ≤ f.counter) ⊎ (f.counter < at) → (f.counter < at) ⊎ (at + length b ≤ f.counter)
      go (inl k) = inr k
      go (inr k) = inl k
  counter_kept (Ok (Order.Protect at)) h ne = byte_protect_equal f.bits f.covered image at b f.counter (go c.apart)
    where
      go : Clear f.counter 1 f.reach f → (f.counter < f.bits) ⊎ (f.bits + (at + length b + 7) / 8 ≤ f.counter)
      go (inl k) = inl (omega arith)
      go (inr k) = inr (omega arith)
  counter_kept (Ok Order.Present) h ne = absurd (true≢false ne)
  counter_kept (Ok Order.Change) h ne = byte_sets image f.code b f.counter (inl c.behind)

  -- where the counter has a protection bit of its own, every order leaves it
  pub bit_kept : Guarded f → (o : Result Order Status) → Fit f b o
      → protection_bit f.bits f.covered (image_by f s image b o) f.counter ≡ protection_bit f.bits f.covered image f.counter
  unfolding image_by
  bit_kept g (Err status) h = refl
  bit_kept g (Ok Order.Select) h = refl
  bit_kept g (Ok (Order.Page p)) h = refl
  bit_kept g (Ok (Order.Read at n)) h = refl
  bit_kept g (Ok (Order.Counter n)) h = refl
  bit_kept g (Ok (Order.Bits at n)) h = refl
  bit_kept g (Ok (Order.Write at)) h =
      bit_same f.bits f.covered image _ f.counter
      (byte_written f s image b c.pageless s.page at (f.bits + f.counter / 8) (inr (omega (arith, h.0, g.behind))))
  bit_kept g (Ok (Order.Protect at)) h = bit_protect_equal f.bits f.covered image at b f.counter (inr (omega (arith, g.short)))
  bit_kept g (Ok Order.Present) h =
      bit_same f.bits f.covered image _ f.counter
      (byte_presenting f.counter f.full f.code f.digits image b (f.bits + f.counter / 8) (λ e. omega (arith, g.before)))
  bit_kept g (Ok Order.Change) h =
      bit_same f.bits f.covered image (sets image f.code b) f.counter
      (byte_sets image f.code b (f.bits + f.counter / 8) (inr (omega (arith, h.1, g.beyond))))

  -- a presented code leaves the counter at most full
  present_within : IsCard f image → byte (image_by f s image b (Ok Order.Present)) f.counter ≤ f.full
  unfolding image_by
  present_within k =
      let inside : f.counter < length image = omega (arith, k.long, c.inside) in
      presenting_either f.counter f.full f.code f.digits image b (λ (l : List ℕ). byte l f.counter ≤ f.full)
      k.within
      (omega (arith, byte_spending f.counter f.full f.code f.digits image b inside, spent_le (byte image f.counter), k.within))
      (omega (arith, byte_full f.counter f.full f.code f.digits image b inside))

  pub within_kept : IsCard f image → (o : Result Order Status) → Fit f b o → byte (image_by f s image b o) f.counter ≤ f.full
  within_kept k o h = go (presents o) refl
    where
      go : (t : Bool) → presents o ≡ t → byte (image_by f s image b o) f.counter ≤ f.full
      go true e = subst⁻¹ (λ (o : Result Order Status). byte (image_by f s image b o) f.counter ≤ f.full) (presents_is o e) (present_within k)
      go false e = omega (arith, counter_kept o h e, k.within)

-- ---- the bytes that have to be 00h
module _ (chip : Chip) (s : Slot) (image b : List ℕ) where
  abbrev f : Facts
  f = facts chip

  -- a code card has none
  no_zeros : {A : Type 0} → f.coded ≡ true → f.zeros < f.size → A
  no_zeros c l = absurd (omega (arith, (coded chip c).filled))

  tail_kept : f.zeros < f.size → (o : Result Order Status) → Fit f b o → (k : ℕ) → f.zeros ≤ k → byte (image_by f s image b o) k ≡ byte image k
  unfolding image_by
  tail_kept l (Err status) h k e = refl
  tail_kept l (Ok Order.Select) h k e = refl
  tail_kept l (Ok (Order.Page p)) h k e = refl
  tail_kept l (Ok (Order.Read at n)) h k e = refl
  tail_kept l (Ok (Order.Counter n)) h k e = refl
  tail_kept l (Ok (Order.Bits at n)) h k e = refl
  tail_kept l (Ok (Order.Write at)) h k e = byte_written f s image b (zeroed chip l).pageless s.page at k (inr (omega (arith, h.0, (zeroed chip l).behind)))
  tail_kept l (Ok (Order.Protect at)) h k e = byte_protect_equal f.bits f.covered image at b k (inr (omega (arith, h.0, (zeroed chip l).beyond)))
  tail_kept l (Ok Order.Present) h k e = no_zeros h.0 l
  tail_kept l (Ok Order.Change) h k e = no_zeros h.0 l

  -- every order leaves them
  pub zeros_kept : length image ≡ f.size → (o : Result Order Status) → Fit f b o → (k : ℕ) → f.zeros ≤ k → byte (image_by f s image b o) k ≡ byte image k
  zeros_kept long o h k e = go (ltb f.zeros f.size) refl
    where
      go : (t : Bool) → ltb f.zeros f.size ≡ t → byte (image_by f s image b o) k ≡ byte image k
      go true l = tail_kept (ltb-true _ _ l) o h k e
      go false l =
          let past : f.size ≤ k = omega (arith, ltb-false f.zeros f.size l) in
          get_or-eq_default (image_by f s image b o) 0 {n = k} (omega (arith, length_image_by f s image b o, long))
          ∙ sym (get_or-eq_default image 0 {n = k} (omega (arith, long)))

-- ---- the protection bytes
-- D0, 20 and D2 leave each of them
module _ (chip : Chip) (image b : List ℕ) (j : ℕ) (h : j < ((facts chip).covered + 7) / 8) where
  abbrev r : Facts
  r = facts chip

  guards : Bitted r
  guards = bitted chip (omega arith)

  -- n bytes from a place on that stand clear of them leave it
  clear_of : (at n : ℕ) → Clear at n r.covered r → (r.bits + j < at) ⊎ (at + n ≤ r.bits + j)
  clear_of at n (inl l) = inr (omega arith)
  clear_of at n (inr l) = inl (omega arith)

  pub guard_written : (s : Slot) (page at : ℕ) → at + length b ≤ r.memory → byte (written r page image at b) (r.bits + j) ≡ byte image (r.bits + j)
  guard_written s page at l = byte_written r s image b guards.pageless page at (r.bits + j) (inr (omega (arith, l, guards.behind)))

  pub guard_presented : byte (after_code r image b) (r.bits + j) ≡ byte image (r.bits + j)
  guard_presented = byte_presenting r.counter r.full r.code r.digits image b (r.bits + j) (λ q. go (clear_of r.counter 1 guards.counter) q)
    where
      go : (r.bits + j < r.counter) ⊎ (r.counter + 1 ≤ r.bits + j) → r.bits + j ≢ r.counter
      go (inl l) q = omega arith
      go (inr l) q = omega arith

  pub guard_changed : length b ≡ r.digits → byte (sets image r.code b) (r.bits + j) ≡ byte image (r.bits + j)
  guard_changed e = byte_sets image r.code b (r.bits + j) (go (clear_of r.code r.digits guards.code))
    where
      go : (r.bits + j < r.code) ⊎ (r.code + r.digits ≤ r.bits + j) → (r.bits + j < r.code) ⊎ (r.code + length b ≤ r.bits + j)
      go (inl l) = inl l
      go (inr l) = inr (omega (arith, e))

-- so the number of protected bytes stays
module _ (chip : Chip) (s : Slot) (image b : List ℕ) where
  abbrev q : Facts
  q = facts chip

  pub count_written : (page at : ℕ) → at + length b ≤ q.memory → count_in q (written q page image at b) ≡ count_in q image
  count_written page at l =
      count_same q.bits q.covered image _ (length_written q s image b page at) (λ j h. guard_written chip image b j (omega arith) s page at l)

  pub count_presented : count_in q (after_code q image b) ≡ count_in q image
  count_presented =
      count_same q.bits q.covered image _ (length_presenting q.counter q.full q.code q.digits image b)
      (λ j h. guard_presented chip image b j (omega arith))

  pub count_changed : length b ≡ q.digits → count_in q (sets image q.code b) ≡ count_in q image
  count_changed e = count_same q.bits q.covered image _ (length-sets image q.code b) (λ j h. guard_changed chip image b j (omega arith) e)

-- ---- a card stays a card of its kind
pub card_kept : (chip : Chip) (s : Slot) (image b : List ℕ) (o : Result Order Status) → IsCard (facts chip) image → Fit (facts chip) b o
    → IsCard (facts chip) (image_by (facts chip) s image b o)
card_kept chip s image b o k h = go (facts chip).coded refl
  where
    f : Facts
    f = facts chip

    long : length (image_by f s image b o) ≡ f.size
    long = length_image_by f s image b o ∙ k.long

    bare : Coded f → (t : Bool) → ltb f.counter f.covered ≡ t → is_protected f.bits f.covered (image_by f s image b o) f.counter ≡ false
    bare c false e = protected_beyond f.bits f.covered _ f.counter (ltb-false _ _ e)
    bare c true e = protected_same f.bits f.covered image _ f.counter (bit_kept f c s image b (guarded chip (ltb-true _ _ e)) o h) ∙ k.bare

    zeros : blank (drop f.zeros (image_by f s image b o)) ≡ true
    zeros = byte_blank _ f.zeros (λ i l. zeros_kept chip s image b k.long o h i l ∙ blank_byte image f.zeros i k.zeros l)

    go : (t : Bool) → f.coded ≡ t → IsCard f (image_by f s image b o)
    go false e = plain_card chip _ e long zeros
    go true e = record { long = long; within = within_kept f (coded chip e) s image b k o h; bare = bare (coded chip e) (ltb f.counter f.covered) refl; zeros = zeros }

-- ---- a closed card
module _ (f : Facts) (s : Slot) (image d : List ℕ) (coded : f.coded ≡ true) (shut : s.«open» ≡ false) where
  denied : {A : Type 0} → f.coded and not s.«open» ≡ false → A
  unfolding ◌and◌
  denied e = absurd (true≢false (sym (ap (λ (t : Bool). t and not s.«open») coded ∙ ap not shut) ∙ e))

  shut_decided : {o : Result Order Status} → Decided f s d o → presents o ≡ false → image_by f s image (body d) o ≡ image
  unfolding image_by ◌and◌
  shut_decided (refused status) ne = refl
  shut_decided (through i at p) ne = go i at p ne
    where
      go : (i : Ins) (at : ℕ) → Passed f s d i at → presents (ordered i at (p3 d) (byte d 5)) ≡ false
          → image_by f s image (body d) (ordered i at (p3 d) (byte d 5)) ≡ image
      go Select at p ne = refl
      go Page at p ne = refl
      go Read at p ne = refl
      go Counter at p ne = refl
      go Bits at p ne = refl
      go Write at p ne = denied p.allowed
      go Protect at p ne = denied p.allowed
      go Present at p ne = absurd (true≢false ne)
      go Change at p ne = denied p.allowed
      go Other at p ne = refl

  -- nothing but a presented code changes a byte
  pub shut_kept : presents (order f s d) ≡ false → image_by f s image (body d) (order f s d) ≡ image
  shut_kept = shut_decided (decided f s d)
