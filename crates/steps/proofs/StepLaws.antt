-- A law for each step, for any instruction: how far a command has come that passed the steps so far, and where it stops. A handler's proof
-- is found by the laws of choices (words); these say the same by step.
use Prim.Native.Nat.{ℕ, ◌+◌}
use mathlib.Core.Path.{◌≡◌, sym, ap, ◌∙◌}
use mathlib.Core.Bool.{true, false, not}
use mathlib.Core.Logic.{◌≢◌}
use borrow.Author.Tests.{eq-eqb, ne_eqb}
use Rattle.std.specs.Prelude.{Result, Ok, Err}
use Rattle.words.specs.Choice.{◌⇒◌⁏◌, ◌and◌, ◌is◌, ◌isnt◌}
use Rattle.words.proofs.Choices.{first, rest, and_fails, and_holds, and_last}
use Rattle.chips.specs.declared.Facts.{Facts}
use Rattle.slot.specs.declared.Slot.{Slot}
use Rattle.steps.specs.declared.Status.{Status}
use Rattle.steps.specs.declared.Ins.{Ins}
use Rattle.steps.specs.declared.Order.{Order}
use Rattle.steps.specs.Steps.{known, needs_type, has, following, length_fits, value_fits, needs_open, ordered, reaching, steps}

-- ---- the chain from a step on
module _ (f : Facts) (s : Slot) (at p : ℕ) (i : Ins) (v : ℕ) where
  abbrev from9 : Result Order Status
  from9 = needs_open i and f.coded and not s.«open» ⇒ Err Status.Denied ⁏ ordered i at p v

  abbrev from8 : Result Order Status
  from8 = not (value_fits f i v) ⇒ Err Status.Value ⁏ from9

module _ (f : Facts) (s : Slot) (n p : ℕ) (i : Ins) (ranged : Result ℕ Status) (v : ℕ) where
  -- step 6 has two tests: the data length, and P3
  abbrev from_p3 : Result Order Status
  from_p3 = not (length_fits f i p) ⇒ Err Status.Length ⁏ reaching f s p v i ranged

  abbrev from6 : Result Order Status
  from6 = n isnt (5 + following i p) ⇒ Err Status.Length ⁏ from_p3

  abbrev from5 : Result Order Status
  from5 = not (has f i) ⇒ Err Status.Instruction ⁏ from6

  abbrev from4 : Result Order Status
  from4 = needs_type i and s.selected is 0 ⇒ Err Status.Unselected ⁏ from5

-- ---- how far a command has come: the steps are what is left of them
module _ (f : Facts) (s : Slot) (n p : ℕ) (i : Ins) (ranged : Result ℕ Status) where
  pub record Past3 : Type 0 where
    pub left : (v : ℕ) → steps f s n p v i ranged ≡ from4 f s n p i ranged v

  pub record Past4 : Type 0 where
    pub left : (v : ℕ) → steps f s n p v i ranged ≡ from5 f s n p i ranged v

  pub record Past5 : Type 0 where
    pub left : (v : ℕ) → steps f s n p v i ranged ≡ from6 f s n p i ranged v

  pub record Past6 : Type 0 where
    pub left : (v : ℕ) → steps f s n p v i ranged ≡ from_p3 f s n p i ranged v

  pub record PastP3 : Type 0 where
    pub left : (v : ℕ) → steps f s n p v i ranged ≡ reaching f s p v i ranged

  -- past step 7 there is an address
  pub record Past7 (at : ℕ) : Type 0 where
    pub left : (v : ℕ) → steps f s n p v i ranged ≡ from8 f s at p i v

  pub record Past8 (at v : ℕ) : Type 0 where
    pub left : steps f s n p v i ranged ≡ from9 f s at p i v

module _ {f : Facts} {s : Slot} {n p : ℕ} {i : Ins} {ranged : Result ℕ Status} where
  -- ---- a step that is passed
  pub past3 : known i ≡ true → Past3 f s n p i ranged
  unfolding steps
  past3 e = record { left = λ v. rest _ _ (ap not e) }

  -- step 4: no type is needed, or one is selected
  pub past4_ready : Past3 f s n p i ranged → needs_type i and s.selected is 0 ≡ false → Past4 f s n p i ranged
  past4_ready o e = record { left = λ v. o.left v ∙ rest _ _ e }

  pub past4 : Past3 f s n p i ranged → s.selected ≢ 0 → Past4 f s n p i ranged
  past4 o e = past4_ready o (and_last (needs_type i) (ne_eqb _ 0 e))

  pub past4_free : Past3 f s n p i ranged → needs_type i ≡ false → Past4 f s n p i ranged
  past4_free o e = past4_ready o (sym (and_fails _ e))

  pub past5 : Past4 f s n p i ranged → has f i ≡ true → Past5 f s n p i ranged
  past5 o e = record { left = λ v. o.left v ∙ rest _ _ (ap not e) }

  pub past6 : Past5 f s n p i ranged → n ≡ 5 + following i p → Past6 f s n p i ranged
  past6 o e = record { left = λ v. o.left v ∙ rest _ _ (ap not (eq-eqb _ _ e)) }

  pub past_p3 : Past6 f s n p i ranged → length_fits f i p ≡ true → PastP3 f s n p i ranged
  past_p3 o e = record { left = λ v. o.left v ∙ rest _ _ (ap not e) }

  -- step 7: the range test answered an address
  pub past7 : {at : ℕ} → PastP3 f s n p i ranged → ranged ≡ Ok at → Past7 f s n p i ranged at
  unfolding reaching
  past7 o e = record { left = λ v. o.left v ∙ ap (reaching f s p v i) e }

  pub past8 : {at : ℕ} → Past7 f s n p i ranged at → (v : ℕ) → value_fits f i v ≡ true → Past8 f s n p i ranged at v
  past8 o v e = record { left = o.left v ∙ rest _ _ (ap not e) }

  -- step 9: the command need not find an open card, or the card is no closed code card; past it the order is given
  pub past9_ready : {at v : ℕ} → Past8 f s n p i ranged at v → needs_open i and f.coded and not s.«open» ≡ false → ordered i at p v ≡ steps f s n p v i ranged
  past9_ready o e = sym (o.left ∙ rest _ _ e)

  pub past9 : {at v : ℕ} → Past8 f s n p i ranged at v → f.coded and not s.«open» ≡ false → ordered i at p v ≡ steps f s n p v i ranged
  past9 o e = past9_ready o (and_last (needs_open i) e)

  -- a command that a closed card does not refuse
  pub past_all : {at : ℕ} → Past7 f s n p i ranged at → (v : ℕ) → value_fits f i v ≡ true → needs_open i ≡ false → ordered i at p v ≡ steps f s n p v i ranged
  past_all o v e h = past9_ready (past8 o v e) (sym (and_fails _ h))

  -- ---- a step that stops the command
  pub stop4 : Past3 f s n p i ranged → needs_type i ≡ true → s.selected ≡ 0 → (v : ℕ) → Err Status.Unselected ≡ steps f s n p v i ranged
  stop4 o e z v = sym (o.left v ∙ first _ _ (sym (and_holds e (sym (eq-eqb _ _ z)))))

  pub stop5 : Past4 f s n p i ranged → has f i ≡ false → (v : ℕ) → Err Status.Instruction ≡ steps f s n p v i ranged
  stop5 o e v = sym (o.left v ∙ first _ _ (ap not e))

  pub stop6 : Past5 f s n p i ranged → n ≢ 5 + following i p → (v : ℕ) → Err Status.Length ≡ steps f s n p v i ranged
  stop6 o e v = sym (o.left v ∙ first _ _ (ap not (ne_eqb _ _ e)))

  pub stop_p3 : Past6 f s n p i ranged → length_fits f i p ≡ false → (v : ℕ) → Err Status.Length ≡ steps f s n p v i ranged
  stop_p3 o e v = sym (o.left v ∙ first _ _ (ap not e))

  pub stop7 : PastP3 f s n p i ranged → ranged ≡ Err Status.Place → (v : ℕ) → Err Status.Place ≡ steps f s n p v i ranged
  unfolding reaching
  stop7 o e v = sym (o.left v ∙ ap (reaching f s p v i) e)

  pub stop8 : {at : ℕ} → Past7 f s n p i ranged at → (v : ℕ) → value_fits f i v ≡ false → Err Status.Value ≡ steps f s n p v i ranged
  stop8 o v e = sym (o.left v ∙ first _ _ (ap not e))

  pub stop9 : {at v : ℕ} → Past8 f s n p i ranged at v → needs_open i ≡ true → f.coded and not s.«open» ≡ true
      → Err Status.Denied ≡ steps f s n p v i ranged
  stop9 o h e = sym (o.left ∙ first _ _ (sym (and_holds h (sym e))))
