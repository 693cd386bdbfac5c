-- Laws of answers: a sealed header and the data behind it are the answer, a reply is failed or done, and an exchange is turned down or a reply.
use mathlib.Core.Path.{◌≡◌, refl, sym, ap, ◌∙◌, subst, subst⁻¹}
use Prim.Native.Nat.{ℕ, zero, suc, ◌≤◌, ◌<◌}
use mathlib.Core.Bool.{true, false, not, false≢true}
use mathlib.Core.List.{List, ◌++◌}
use native.Mathlib.Omega.{arith}
use Rattle.std.specs.Prelude.{Option, None}
use lib.ListN.{length, take, drop, length-append, take-append-drop}
use Rattle.std.specs.Prelude.{Err}
use Rattle.words.specs.Choice.{◌or◌}
use Rattle.words.specs.Bytes.{over, four_bytes}
use Rattle.words.proofs.Choices.{first, rest}
use Rattle.words.proofs.Lists.{over_head, over_none}
use Rattle.slot.specs.declared.Slot.{Slot}
use Rattle.sound.specs.Sound.{image_is_card, page_size, sound}
use Rattle.orders.specs.Orders.{Deed}
use Rattle.faults.specs.declared.Fault.{Fault}
use Rattle.frame.specs.declared.Refusal.{Refusal}
use Rattle.frame.specs.declared.Reply.{Reply}
use Rattle.faults.proofs.ClearLaws.{clear_is, clear_slot}
use Rattle.faults.specs.declared.Request.{Request}
use Rattle.faults.specs.Faults.{b_slot, b_seq, type_byte, request_of, fault_of, is_clear}
use Rattle.frame.specs.Answers.{answer_type, b_error, card_state, b_status, byte9, header, answer}
use Rattle.frame.specs.Exchange.{Outcome, number, answer_length, turned_down, idle, deed, answered, replied, reply, served, Gives, Sealed}

pub gives_is : {o o' : Outcome} {r : Reply} {left was holds : List ℕ} → o ≡ o' → Gives o' r left was holds → Gives o r left was holds
gives_is {o} {o'} {r} {left} {was} {holds} e g = subst⁻¹ (λ (x : Outcome). Gives x r left was holds) e g

-- turned down, all is as it came
pub gives_down : (refusal : Refusal) (s : Slot) (image was : List ℕ) {r : Reply} → r.verdict ≡ Err refusal → r.slot ≡ s
    → Gives (turned_down refusal s image) r image was was
gives_down refusal s image was e h = record {
  number = ap number e;
  len = ap answer_length e;
  slot = h;
  image = refl;
  buffer = sym (over_none was);
}

-- ---- the header and the data behind it
length_header : (type len n seq status error last : ℕ) → length (header type len n seq status error last) ≡ 10
unfolding header four_bytes
length_header type len n seq status error last = refl

-- the data stand from byte 10 on, and the header is put before them
pub gives_sealed : (r : Request) (m : List ℕ) (f : Option Fault) (d : Deed) (was : List ℕ) {n : ℕ} {rep : Reply} {left mid holds : List ℕ}
    → n ≡ length d.said → 10 ≤ length was → mid ≡ take 10 was ++ over d.said (drop 10 was) → left ≡ d.image
    → Sealed (answer_type r) f n d.slot m rep mid holds → Gives (answered r m f d) rep left was holds
unfolding answer
gives_sealed r m f d was {n} {rep} {left} {mid} {holds} e h p q z =
    let st : ℕ = card_state (b_slot m) d.slot in
    let hd : ℕ → List ℕ = λ k. header (answer_type r) k (b_slot m) (b_seq m) (b_status f st) (b_error f) (byte9 (answer_type r) f st d.slot) in
    record {
      number = ap number z.verdict;
      len = ap answer_length z.verdict ∙ omega (
        arith,
        length-append (hd (length d.said)) d.said,
        length_header (answer_type r) (length d.said) (b_slot m) (b_seq m) (b_status f st) (b_error f) (byte9 (answer_type r) f st d.slot),
        e,
      );
      slot = z.slot;
      image = q;
      buffer =
          z.buffer
          ∙ ap (λ (k : ℕ). over (hd k) mid) e
          ∙ ap (over (hd (length d.said))) p
          ∙ over_head 10 (hd (length d.said)) d.said was
          (length_header (answer_type r) (length d.said) (b_slot m) (b_seq m) (b_status f st) (b_error f) (byte9 (answer_type r) f st d.slot)) h;
    }

-- there are no data
pub gives_plain : (r : Request) (m : List ℕ) (f : Option Fault) (s : Slot) (image was : List ℕ) {rep : Reply} {holds : List ℕ} → 10 ≤ length was
    → Sealed (answer_type r) f 0 s m rep was holds → Gives (answered r m f (idle s image)) rep image was holds
gives_plain r m f s image was h z =
    gives_sealed r m f (idle s image) was refl h (sym (ap (λ (l : List ℕ). take 10 was ++ l) (over_none (drop 10 was)) ∙ take-append-drop 10 was)) refl z

pub sealed_slot : {type : ℕ} {f : Option Fault} {n : ℕ} {s s' : Slot} {m : List ℕ} {r : Reply} {was holds : List ℕ} → s ≡ s' → Sealed type f n s m r was holds
    → Sealed type f n s' m r was holds
sealed_slot {type} {f} {n} {s} {s'} {m} {r} {was} {holds} e z = subst (λ (x : Slot). Sealed type f n x m r was holds) e z

pub sealed_type : {type type' : ℕ} {f : Option Fault} {n : ℕ} {s : Slot} {m : List ℕ} {r : Reply} {was holds : List ℕ} → type ≡ type' → Sealed type f n s m r was holds
    → Sealed type' f n s m r was holds
sealed_type {type} {type'} {f} {n} {s} {m} {r} {was} {holds} e z = subst (λ (x : ℕ). Sealed x f n s m r was holds) e z

-- without a fault
pub sealed_clear : {type : ℕ} {f : Option Fault} {n : ℕ} {s : Slot} {m : List ℕ} {r : Reply} {was holds : List ℕ} → is_clear f ≡ true
    → Sealed type None n s m r was holds → Sealed type f n s m r was holds
sealed_clear {type} {f} {n} {s} {m} {r} {was} {holds} e z = subst⁻¹ (λ (x : Option Fault). Sealed type x n s m r was holds) (clear_is f e) z

pub names_0 : (r : Request) (s : Slot) (m : List ℕ) {f : Option Fault} → f ≡ fault_of r s m → is_clear f ≡ true → b_slot m ≡ 0
names_0 r s m is e = clear_slot r s m (subst (λ (x : Option Fault). is_clear x ≡ true) is e)

-- ---- a reply, with the fault that was found
module _ (r : Request) (s : Slot) (image m : List ℕ) {f : Option Fault} (is : f ≡ fault_of r s m) where
  by_fault : {rep : Reply} {left was holds : List ℕ} → Gives (replied r f s image m) rep left was holds → Gives (reply r s image m) rep left was holds
  unfolding reply
  by_fault {rep} {left} {was} {holds} g = subst (λ (x : Option Fault). Gives (replied r x s image m) rep left was holds) is g

  -- "a failed message has no data and changes neither slot nor image"
  pub gives_failed : (was : List ℕ) {rep : Reply} {holds : List ℕ} → is_clear f ≡ false → 10 ≤ length was → Sealed (answer_type r) f 0 s m rep was holds
      → Gives (reply r s image m) rep image was holds
  unfolding replied
  gives_failed was e h z = by_fault (gives_is (ap (answered r m f) (rest _ _ e)) (gives_plain r m f s image was h z))

  -- one without a fault does what it does
  pub gives_done : (was : List ℕ) (d : Deed) {n : ℕ} {rep : Reply} {left mid holds : List ℕ} → is_clear f ≡ true → deed r s.holds s image m ≡ d
      → n ≡ length d.said → 10 ≤ length was → mid ≡ take 10 was ++ over d.said (drop 10 was) → left ≡ d.image
      → Sealed (answer_type r) f n d.slot m rep mid holds → Gives (reply r s image m) rep left was holds
  unfolding replied
  gives_done was d e k n h p q z = by_fault (gives_is (ap (answered r m f) (first _ _ e ∙ k)) (gives_sealed r m f d was n h p q z))

  pub gives_quiet : (was : List ℕ) (s' : Slot) {rep : Reply} {holds : List ℕ} → is_clear f ≡ true → deed r s.holds s image m ≡ idle s' image → 10 ≤ length was
      → Sealed (answer_type r) f 0 s' m rep was holds → Gives (reply r s image m) rep image was holds
  unfolding replied
  gives_quiet was s' e k h z = by_fault (gives_is (ap (answered r m f) (first _ _ e ∙ k)) (gives_plain r m f s' image was h z))

-- a reply to the same request
pub gives_request : (s : Slot) (image m : List ℕ) {r r' : Request} {rep : Reply} {left was holds : List ℕ} → r ≡ r' → Gives (reply r' s image m) rep left was holds
    → Gives (reply r s image m) rep left was holds
gives_request s image m e g = gives_is (ap (λ (x : Request). reply x s image m) e) g

-- ---- the named slot
pub served_on : (s : Slot) (image m : List ℕ) → image_is_card s.holds image ≡ true → sound s image ≡ true → served s image m ≡ reply (request_of (type_byte m)) s image m
unfolding served
served_on s image m c d = rest _ _ (ap not c) ∙ rest _ _ (ap not d)

-- a page of a sound record is some page
pub page_some : (p : ℕ) → page_size p ≡ true → 0 < p
unfolding page_size ◌or◌
page_some zero e = absurd (false≢true e)
page_some (suc p) e = omega arith
