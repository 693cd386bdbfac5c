-- What an order leaves of protected bytes, over every kind of card with protection bits: a protected byte keeps its value, and a byte is
-- protected afterwards where it was before and where the order is a D1 that carries its value.
use Rattle.std.specs.Prelude.{Result, Ok, Err}
use mathlib.Core.Path.{◌≡◌, refl, sym, ap, ◌∙◌}
use mathlib.Core.List.{List}
use mathlib.Core.Bool.{Bool, true, false}
use mathlib.Core.Logic.{inl, ◌≢◌}
use Prim.Native.Nat.{ℕ, ◌+◌, ◌/◌, ◌≤◌, ◌<◌}
use native.Mathlib.Omega.{arith}
use lib.Seq.{sets}
use lib.Dec.{ltb}
use borrow.Author.Tests.{ltb-true, ltb-false}
use Rattle.words.specs.Choice.{◌or◌}
use Rattle.words.specs.Bytes.{byte}
use Rattle.words.proofs.Choices.{no_test, or_end}
use Rattle.words.proofs.Lists.{byte_sets}
use Rattle.chips.specs.declared.Chip.{Chip}
use Rattle.chips.specs.declared.Facts.{Facts}
use Rattle.chips.specs.Kinds.{facts}
use Rattle.chips.proofs.KindLaws.{Bitted, bitted, laid}
use Rattle.bits.specs.Bits.{is_protected}
use Rattle.bits.proofs.ProtectionLaws.{protected_beyond, byte_protect_equal}
use Rattle.bits.proofs.BitLaws.{bit_same, protected_same, protected_equal_lem, carries_before}
use Rattle.stores.proofs.StoreLaws.{byte_passed}
use Rattle.card.proofs.ImageLaws.{IsCard}
use Rattle.codes.proofs.CodeLaws.{byte_presenting}
use Rattle.slot.specs.declared.Slot.{Slot}
use Rattle.steps.specs.declared.Status.{Status}
use Rattle.steps.specs.declared.Order.{Order}
use Rattle.steps.specs.declared.Ins.{Ins}
use Rattle.steps.specs.declared.Ins.TheVariants.{Select, Page, Read, Counter, Bits, Write, Protect, Present, Change, Other}
use Rattle.steps.specs.Steps.{p3, body, ordered, order}
use Rattle.steps.specs.Fits.{Fit}
use Rattle.steps.proofs.Decisions.{Passed, Decided, refused, through, decided, fit_decided, order_fits}
use Rattle.orders.specs.Orders.{image_by, carries_by}
use Rattle.orders.proofs.ImageKept.{written_stores, guard_written, guard_presented, guard_changed}

module _ (chip : Chip) (s : Slot) (image : List ℕ) (k : ℕ) where
  abbrev f : Facts
  f = facts chip

  abbrev guarded : List ℕ → Bool
  guarded l = is_protected f.bits f.covered l k

  -- a byte has a bit where it is protected
  covered_by : guarded image ≡ true → k < f.covered
  covered_by e = go (ltb k f.covered) refl
    where
      go : (b : Bool) → ltb k f.covered ≡ b → k < f.covered
      go true h = ltb-true _ _ h
      go false h = no_test e (protected_beyond f.bits f.covered image k (ltb-false _ _ h))

  -- ---- the value
  module _ (c : IsCard f image) (e : guarded image ≡ true) where
    with_bits : Bitted f
    with_bits = bitted chip (omega (arith, covered_by e))

    -- the counter is not protected
    no_counter : k ≢ f.counter
    no_counter q = no_test e (ap (is_protected f.bits f.covered image) q ∙ c.bare)

    value_passed : (d : List ℕ) (i : Ins) (at : ℕ) → Passed f s d i at → Fit f (body d) (ordered i at (p3 d) (byte d 5))
        → byte (image_by f s image (body d) (ordered i at (p3 d) (byte d 5))) k ≡ byte image k
    unfolding image_by
    value_passed d Select at p h = refl
    value_passed d Page at p h = refl
    value_passed d Read at p h = refl
    value_passed d Counter at p h = refl
    value_passed d Bits at p h = refl
    value_passed d Write at p h =
        ap (λ (l : List ℕ). byte l k) (written_stores f s image (body d) with_bits.pageless s.page at)
        ∙ byte_passed f.bits f.covered image at (body d) k (omega (arith, h.0, with_bits.behind)) e
    value_passed d Protect at p h =
        byte_protect_equal f.bits f.covered image at (body d) k (inl (omega (arith, covered_by e, (laid chip).kept, with_bits.behind)))
    value_passed d Present at p h = byte_presenting f.counter f.full f.code f.digits image (body d) k no_counter
    value_passed d Change at p h = byte_sets image f.code (body d) k (inl (omega (arith, covered_by e, with_bits.past p.had)))
    value_passed d Other at p h = refl

    value_decided : (d : List ℕ) {o : Result Order Status} → Decided f s d o → byte (image_by f s image (body d) o) k ≡ byte image k
    unfolding image_by
    value_decided d (refused status) = refl
    value_decided d (through i at p) = value_passed d i at p (fit_decided f s d (through i at p))

    -- a protected byte keeps its value
    pub value_kept : (d : List ℕ) → byte (image_by f s image (body d) (order f s d)) k ≡ byte image k
    value_kept d = value_decided d (decided f s d)

  -- ---- being protected
  module _ (c : IsCard f image) where
    -- what leaves the byte that the bit stands in leaves it protected or not
    bit_stays : (image' : List ℕ) → byte image' (f.bits + k / 8) ≡ byte image (f.bits + k / 8) → guarded image' ≡ (guarded image or false)
    bit_stays image' h = protected_same f.bits f.covered image image' k (bit_same f.bits f.covered image image' k h) ∙ sym (or_end _)

    module _ (h : k < f.covered) where
      has_bits_lem : Bitted f
      has_bits_lem = bitted chip (omega arith)

      -- the protection byte of its bit is one
      guarding : k / 8 < (f.covered + 7) / 8
      guarding = omega arith

      protected_order : (b : List ℕ) (o : Result Order Status) → Fit f b o → guarded (image_by f s image b o) ≡ (guarded image or carries_by image b k o)
      unfolding image_by
      protected_order b (Err status) w = sym (or_end _)
      protected_order b (Ok Order.Select) w = sym (or_end _)
      protected_order b (Ok (Order.Page p)) w = sym (or_end _)
      protected_order b (Ok (Order.Read at n)) w = sym (or_end _)
      protected_order b (Ok (Order.Counter n)) w = sym (or_end _)
      protected_order b (Ok (Order.Bits at n)) w = sym (or_end _)
      protected_order b (Ok (Order.Write at)) w = bit_stays _ (guard_written chip image b (k / 8) guarding s s.page at w.0)
      protected_order b (Ok (Order.Protect at)) w =
          protected_equal_lem f.bits f.covered k h (omega (arith, (laid chip).kept, has_bits_lem.behind)) image at b (omega (arith, (laid chip).guards, c.long))
      protected_order b (Ok Order.Present) w = bit_stays _ (guard_presented chip image b (k / 8) guarding)
      protected_order b (Ok Order.Change) w = bit_stays (sets image f.code b) (guard_changed chip image b (k / 8) guarding w.1)

    -- a byte without a bit is never protected, and no D1 reaches it
    carries_none : f.covered ≤ k → (b : List ℕ) (o : Result Order Status) → Fit f b o → carries_by image b k o ≡ false
    carries_none l b (Err status) w = refl
    carries_none l b (Ok Order.Select) w = refl
    carries_none l b (Ok (Order.Page p)) w = refl
    carries_none l b (Ok (Order.Read at n)) w = refl
    carries_none l b (Ok (Order.Counter n)) w = refl
    carries_none l b (Ok (Order.Bits at n)) w = refl
    carries_none l b (Ok (Order.Write at)) w = refl
    carries_none l b (Ok (Order.Protect at)) w = carries_before at b k (byte image k) (omega (arith, w.0, (laid chip).reached))
    carries_none l b (Ok Order.Present) w = refl
    carries_none l b (Ok Order.Change) w = refl

    beyond : f.covered ≤ k → (b : List ℕ) (o : Result Order Status) → Fit f b o → guarded (image_by f s image b o) ≡ (guarded image or carries_by image b k o)
    beyond l b o w =
        protected_beyond f.bits f.covered (image_by f s image b o) k l
        ∙ sym (ap (λ (x : Bool). guarded image or x) (carries_none l b o w) ∙ or_end _ ∙ protected_beyond f.bits f.covered image k l)

    -- a byte is protected where it was, and where a D1 carries its value
    pub protected_by : (d : List ℕ) → let o = order f s d in guarded (image_by f s image (body d) o) ≡ (guarded image or carries_by image (body d) k o)
    protected_by d = go (ltb k f.covered) refl
      where
        w : Fit f (body d) (order f s d)
        w = order_fits f s d

        go : (b : Bool) → ltb k f.covered ≡ b
            → guarded (image_by f s image (body d) (order f s d)) ≡ (guarded image or carries_by image (body d) k (order f s d))
        go true h = protected_order (ltb-true _ _ h) (body d) (order f s d) w
        go false h = beyond (ltb-false _ _ h) (body d) (order f s d) w
