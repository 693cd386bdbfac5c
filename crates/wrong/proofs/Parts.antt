-- Our reader with a part replaced (specs/Wrong) is our reader where the part put in is the rules' own. So a wrong reader that is made this way is
-- wrong by the part that its definition names, and by nothing else.
use Rattle.std.specs.Prelude.{Result, Ok, Err}
use Prim.Native.Nat.{ℕ, ◌+◌, ◌-◌}
use mathlib.Core.Path.{◌≡◌, refl, sym, ap, ap₂, ◌∙◌, subst⁻¹}
use mathlib.Core.Bool.{Bool, true, false, not, true≢false}
use mathlib.Core.List.{List, [], ◌∷◌}
use native.Mathlib.Nat.{zero-add}
use lib.ListN.{length}
use borrow.Author.Tests.{eqb-true, not-true, not-false}
use Rattle.std.specs.Prelude.{Option, Some, None}
use Rattle.words.specs.Choice.{◌⇒◌⁏◌, ◌and◌, ◌or◌, ◌is◌, ◌isnt◌}
use Rattle.words.specs.Bytes.{byte, same}
use Rattle.words.proofs.Choices.{either, past, rest, and_true, same_choice, never, no_test}
use Rattle.chips.specs.declared.Chip.{Chip}
use Rattle.chips.specs.declared.Facts.{Facts}
use Rattle.chips.specs.Kinds.{facts, chip_of}
use Rattle.sets.specs.Sets.{fault_at, set_of}
use Rattle.slot.specs.declared.Slot.{Slot}
use Rattle.counts.specs.Counts.{put_in}
use Rattle.card.specs.Images.{is_card}
use Rattle.steps.specs.declared.Status.{Status}
use Rattle.steps.specs.declared.Order.{Order}
use Rattle.steps.specs.declared.Ins.{Ins}
use Rattle.steps.specs.Steps.{ins_of, p1p2, p3, body, meant, top, ordered, order}
use Rattle.steps.proofs.Decisions.{Decided, refused, through, decided, placed}
use Rattle.stores.specs.Stores.{storing}
use Rattle.sound.specs.Sound.{image_is_card, sound}
use Rattle.std.specs.Prelude.{Option, Some, None, is_some, option_map}
use Rattle.faults.specs.declared.Fault.{Fault}
use Rattle.faults.specs.declared.Request.{Request}
use Rattle.faults.specs.declared.Request.TheVariants.{SetParameters, Transfer}
use Rattle.faults.specs.Faults.{type_byte, dw_length, b_slot, apdu, request_of, data_fits, ready, fault_of}
use Rattle.orders.specs.Orders.{Deed, done, unequal, reported, written, written_word, said_by, image_by, slot_by, performed, commanded}
use Rattle.frame.specs.declared.Refusal.{Refusal}
use Rattle.frame.specs.Exchange.{served, Outcome, turned_down, answered, replied, reply, exchange, inserted_as, insertion}
use Rattle.reader.specs.Runs.{Sent, sending, run}
use Rattle.promise.specs.Sequences.{sent_with}
use Rattle.promise.proofs.Reached.{transfers_is, transfer_does}
use Rattle.wrong.specs.Wrong.{Reader, rowed, one_by_one, card_in, taking, refusing, vetting, faulting, early, fielding, upon, commanding_on, commanding, ordering, sooner, letting, barring}
use Rattle.wrong.specs.Wrong.{tells, leaves, lets, ins, placed_by, place_in, twisted, doing, at_wrong, at_right, inserts_as, inserts_by, upon_insert}
use Rattle.wrong.specs.WrongStores.{storing_by, reporting_by, at_unequal}

-- a reader gives what ours gives, at every input
abbrev pub Ours : Reader → Type 0
Ours read = (s : Slot) (image m : List ℕ) (room : ℕ) → read s image m room ≡ exchange s image m room

pub upon_ours : (type : ℕ) → Ours (upon type (λ s image o. o))
unfolding upon
upon_ours type s image m room = same_choice _ refl

-- ---- tests 1 to 4
-- what comes of a message, by the test that turns it down
data Tested (s : Slot) (image m : List ℕ) : Outcome → Type 0 where
  buffer : Tested s image m (turned_down Refusal.Buffer s image)
  message : Tested s image m (turned_down Refusal.Message s image)
  image : image_is_card s.holds image ≡ false → Tested s image m (turned_down Refusal.Image s image)
  record' : sound s image ≡ false → Tested s image m (turned_down Refusal.Record s image)
  passed : sound s image ≡ true → Tested s image m (reply (request_of (type_byte m)) s image m)

tested : (s : Slot) (image m : List ℕ) (room : ℕ) → Tested s image m (exchange s image m room)
unfolding exchange served
tested s i m room =
    past (Tested s i m) _ buffer (λ _.
    past (Tested s i m) _ message (λ _.
    either (Tested s i m) _ (λ e. image (not-true _ e)) (λ _.
    either (Tested s i m) _ (λ e. record' (not-true _ e)) (λ e. passed (not-false _ e)))))

pub faulting_ours : Ours (faulting fault_of)
unfolding faulting reply replied ◌⇒◌⁏◌
faulting_ours s i m room = go (tested s i m room)
  where
    go : {o : Outcome} → Tested s i m o → (o.number is 0 ⇒ reply (request_of (type_byte m)) s i m ⁏ o) ≡ o
    go buffer = refl
    go message = refl
    go (image e) = refl
    go (record' e) = refl
    go (passed e) = refl

-- where the byte that is wrong is the rules', so is the fault
module _ (s : Slot) (m : List ℕ) where
  abbrev late : Request → Option Fault
  late r =
      let at = fault_at (set_of m) (length m - 10) in
      is_some at ⇒ option_map Fault.Field at ⁏ not (ready r s) ⇒ Some Fault.Card ⁏ None

  abbrev Found : Option Fault → Type 0
  Found f = (early f ⇒ f ⁏ late SetParameters) ≡ f

  found_set : Found (fault_of SetParameters s m)
  unfolding fault_of ◌⇒◌⁏◌
  found_set =
      past Found (dw_length m isnt (length m - 10)) refl (λ _.
      past Found (not (data_fits SetParameters (dw_length m))) refl (λ _.
      past Found (b_slot m isnt 0) refl (λ _. same_choice (early (late SetParameters)) refl)))

  abbrev chosen : Bool → Request → Option Fault
  chosen b r = b or early (fault_of r s m) ⇒ fault_of r s m ⁏ late r

  found_fault : (b : Bool) → type_byte m isnt 0x61 ≡ b → chosen b (request_of (type_byte m)) ≡ fault_of (request_of (type_byte m)) s m
  unfolding request_of ◌or◌ ◌⇒◌⁏◌
  found_fault true h = refl
  found_fault false h =
      subst⁻¹ (λ (r : Request). chosen false r ≡ fault_of r s m) (ap request_of (eqb-true (type_byte m) 0x61 (not-false _ h))) found_set

pub fielding_ours : Ours (fielding fault_at)
unfolding fielding faulting
fielding_ours s i m room =
    ap (λ (f : Option Fault). (exchange s i m room).number is 0 ⇒ replied (request_of (type_byte m)) f s i m ⁏ exchange s i m room)
    (found_fault s m (type_byte m isnt 0x61) refl)
    ∙ faulting_ours s i m room

pub vetting_ours : Ours (vetting sound)
unfolding vetting reply replied ◌and◌ ◌⇒◌⁏◌
vetting_ours s i m room = go (tested s i m room)
  where
    go : {o : Outcome} → Tested s i m o → (o.number is 4 and sound s i ⇒ reply (request_of (type_byte m)) s i m ⁏ o) ≡ o
    go buffer = refl
    go message = refl
    go (image e) = refl
    go (record' e) = rest _ _ e
    go (passed e) = refl

pub refusing_ours : Ours (refusing sound)
unfolding refusing reply replied ◌and◌ ◌⇒◌⁏◌
refusing_ours s i m room = go (tested s i m room)
  where
    go : {o : Outcome} → Tested s i m o → (o.number is 0 and not (sound s i) ⇒ turned_down Refusal.Record s i ⁏ o) ≡ o
    go buffer = refl
    go message = refl
    go (image e) = refl
    go (record' e) = refl
    go (passed e) = rest _ _ (ap not e)

-- an image that is none of the card in the slot
no_card : (h : Option Chip) (i : List ℕ) → image_is_card h i ≡ false → is_card (card_in h) i ≡ false
no_card None i e = absurd (true≢false e)
no_card (Some chip) i e = e

pub taking_ours : Ours (taking is_card)
unfolding taking reply replied ◌and◌ ◌⇒◌⁏◌
taking_ours s i m room = go (tested s i m room)
  where
    go : {o : Outcome} → Tested s i m o
        → (o.number is 3 and is_card (card_in s.holds) i ⇒ (sound s i ⇒ reply (request_of (type_byte m)) s i m ⁏ turned_down Refusal.Record s i) ⁏ o) ≡ o
    go buffer = refl
    go message = refl
    go (image e) = rest _ _ (no_card s.holds i e)
    go (record' e) = refl
    go (passed e) = refl

-- ---- commands
-- a reader whose commands do what the rules say is ours
commanding_on_lem : (h : Option Chip) (does : Facts → Slot → List ℕ → List ℕ → Deed) (s : Slot) (i m : List ℕ) (room : ℕ) → s.holds ≡ h
    → ((f : Facts) (d : List ℕ) → does f s i d ≡ commanded f s i d) → commanding_on h does s i m room ≡ exchange s i m room
unfolding commanding_on commanded
commanding_on_lem None does s i m room h e = refl
commanding_on_lem (Some chip) does s i m room h e =
    either (λ (o : Outcome). o ≡ exchange s i m room) _
    (λ c.
    let t = and_true _ _ c in
    ap (answered Transfer m None) (e (facts chip) (apdu m)) ∙ sym (transfer_does chip s i (sent_with m room) h t.0 (transfers_is _ t.1)))
    (λ _. refl)

pub commanding_ours : (does : Facts → Slot → List ℕ → List ℕ → Deed)
    → ((f : Facts) (s : Slot) (i d : List ℕ) → does f s i d ≡ commanded f s i d) → Ours (commanding does)
commanding_ours does e s i m room = commanding_on_lem s.holds does s i m room refl (λ f d. e f s i d)

pub rowed_ours : Ours (rowed (λ f. f))
rowed_ours = commanding_ours _ (λ f s i d. refl)

pub ordering_ours : (orders : Facts → Slot → List ℕ → List ℕ → Result Order Status)
    → ((f : Facts) (s : Slot) (i d : List ℕ) → orders f s i d ≡ order f s d) → Ours (ordering orders)
unfolding commanded
ordering_ours orders e = commanding_ours _ (λ f s i d. ap (performed f s i (body d)) (e f s i d))

-- with what INS means and its place as the rules find them
pub placed_ours : (f : Facts) (s : Slot) (i d : List ℕ) → placed_by ins place_in f s i d ≡ commanded f s i d
unfolding commanded order
placed_ours f s i d = refl

pub doing_ours : (ins : ℕ) → Ours (doing ins (λ f s i d e. e))
unfolding twisted
doing_ours ins = commanding_ours _ (λ f s i d. same_choice _ refl)

pub at_wrong_ours : Ours (at_wrong (λ f s i d e. e))
unfolding at_wrong twisted
at_wrong_ours = commanding_ours _ (λ f s i d. same_choice _ (same_choice _ refl))

pub at_right_ours : Ours (at_right (λ f s i d e. e))
unfolding at_right twisted
at_right_ours = commanding_ours _ (λ f s i d. same_choice _ (same_choice _ refl))

-- ---- D0
-- a refusal is not let through
refusal_kept : {A : Type 0} (status : Status) → lets (Err status) ≡ true → A
unfolding same
refusal_kept Status.Length e = no_test e refl
refusal_kept Status.Class e = no_test e refl
refusal_kept Status.Instruction e = no_test e refl
refusal_kept Status.Unselected e = no_test e refl
refusal_kept Status.Place e = no_test e refl
refusal_kept Status.Value e = no_test e refl
refusal_kept Status.Denied e = no_test e refl

-- a D0 that is let through is a write from its address on
let_writes : (f : Facts) (s : Slot) (d : List ℕ) → byte d 1 is 0xD0 and lets (order f s d) ≡ true → order f s d ≡ Ok (Order.Write (p1p2 d))
unfolding ins_of ◌⇒◌⁏◌
let_writes f s d h = go (decided f s d) (and_true _ _ h).1
  where
    go : {o : Result Order Status} → Decided f s d o → lets o ≡ true → o ≡ Ok (Order.Write (p1p2 d))
    go (refused status) e = refusal_kept status e
    go (through i at p) e =
        let b : ins_of (byte d 1) ≡ ins_of 0xD0 = ap ins_of (eqb-true (byte d 1) 0xD0 (and_true _ _ h).0) in
        let at-p1p2 : at ≡ p1p2 d = sym (placed p).0 ∙ ap (λ (x : Ins). top f x + p1p2 d) b ∙ zero-add (p1p2 d) in
        ap₂ (λ (x : Ins) (n : ℕ). ordered x n (p3 d) (byte d 5)) (sym p.ins ∙ ap (meant f) b) at-p1p2

-- so it does what the rules say of one
let_does : (f : Facts) (s : Slot) (i d : List ℕ) → byte d 1 is 0xD0 and lets (order f s d) ≡ true
    → commanded f s i d ≡ performed f s i (body d) (Ok (Order.Write (p1p2 d)))
unfolding commanded
let_does f s i d h = ap (performed f s i (body d)) (let_writes f s d h)

pub storing_ours : Ours (storing_by (λ f i at b. storing f.bits f.covered i at b))
unfolding storing_by twisted performed said_by image_by slot_by written
storing_ours = commanding_ours _ (λ f s i d.
    let stored : List ℕ = storing f.bits f.covered i (p1p2 d) (body d) in
    either (λ (x : Deed). x ≡ commanded f s i d) _
    (λ h. subst⁻¹ (λ (e : Deed). (f.page isnt 0 ⇒ e ⁏ tells (written_word f stored (p1p2 d) (body d)) (leaves stored e)) ≡ e) (let_does f s i d h)
    (either (λ (x : Deed). x ≡ performed f s i (body d) (Ok (Order.Write (p1p2 d)))) _
    (λ _. refl)
    (λ z. ap (λ (l : List ℕ). record { said = written_word f l (p1p2 d) (body d); slot = s; image = l }) (sym (rest _ _ z)))))
    (λ _. refl))

pub reporting_ours : Ours (reporting_by (λ f i after at b. reported f after at b))
unfolding reporting_by twisted performed said_by image_by slot_by written_word
reporting_ours = commanding_ours _ (λ f s i d.
    either (λ (x : Deed). x ≡ commanded f s i d) _
    (λ h. subst⁻¹ (λ (e : Deed). tells (reported f e.image (p1p2 d) (body d) ⇒ done ⁏ unequal) e ≡ e) (let_does f s i d h) refl)
    (λ _. refl))

pub at_unequal_ours : Ours (at_unequal (λ f s i d e. e))
unfolding at_unequal twisted
at_unequal_ours = commanding_ours _ (λ f s i d. same_choice _ (same_choice _ refl))

-- ---- steps
-- where its test holds nowhere, nothing comes sooner, nothing more is let through and nothing more is barred
pub sooner_ours : (earlier later : Status) → Ours (sooner earlier (λ f s i d. false) later)
unfolding sooner
sooner_ours earlier later = ordering_ours _ (λ f s i d. never _ _ _)

pub letting_ours : (status : Status) → Ours (letting status (λ f s i d. false))
unfolding letting
letting_ours status = ordering_ours _ (λ f s i d. never _ _ _)

pub barring_ours : (status : Status) → Ours (barring status (λ f s i d. false))
unfolding barring
barring_ours status = ordering_ours _ (λ f s i d. never _ _ _)

-- ---- insertion
-- what comes of an insertion of a known kind, by the test that turns it down
data Put (chip : Chip) (s : Slot) (image : List ℕ) : Outcome → Type 0 where
  occupied : Put chip s image (turned_down Refusal.Occupied s image)
  other : is_card (facts chip) image ≡ false → Put chip s image (turned_down Refusal.Image s image)
  taken : Put chip s image (record { number = 0; answer = []; slot = put_in chip image; image = image })

put : (chip : Chip) (s : Slot) (kind : ℕ) (i : List ℕ) → chip_of kind ≡ Some chip → Put chip s i (insertion s kind i)
unfolding insertion inserted_as
put chip s kind i e =
    past (Put chip s i) _ occupied (λ _.
    subst⁻¹ (λ (k : Option Chip). Put chip s i (inserted_as k s i)) e (either (Put chip s i) _ (λ _. taken) (λ h. other h)))

inserts_as_lem : (k : Option Chip) (s : Slot) (kind : ℕ) (i : List ℕ) → chip_of kind ≡ k → inserts_as k is_card s kind i ≡ insertion s kind i
unfolding inserts_as ◌and◌ ◌⇒◌⁏◌
inserts_as_lem None s kind i e = refl
inserts_as_lem (Some chip) s kind i e = go (put chip s kind i e)
  where
    go : {o : Outcome} → Put chip s i o
        → (o.number is 3 and is_card (facts chip) i ⇒ record { number = 0; answer = []; slot = put_in chip i; image = i } ⁏ o) ≡ o
    go occupied = refl
    go (other h) = rest _ _ h
    go taken = refl

pub inserts_ours : (s : Slot) (kind : ℕ) (i : List ℕ) → inserts_by is_card s kind i ≡ insertion s kind i
inserts_ours s kind i = inserts_as_lem (chip_of kind) s kind i refl

pub upon_insert_ours : (s : Slot) (kind : ℕ) (i : List ℕ) → upon_insert (λ f s o. o) s kind i ≡ insertion s kind i
unfolding upon_insert
upon_insert_ours s kind i = same_choice _ refl

-- ---- runs
pub one_by_one_ours : (s : Slot) (i : List ℕ) (ms : List Sent) → one_by_one exchange s i ms ≡ (run s i ms).outcomes
unfolding one_by_one run
one_by_one_ours s i [] = refl
one_by_one_ours s i (m ∷ ms) = ap (λ (os : List Outcome). sending s i m ∷ os) (one_by_one_ours (sending s i m).slot (sending s i m).image ms)
