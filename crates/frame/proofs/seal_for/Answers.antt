-- `seal_for` meets its contract: ten bytes, each the rule's, are laid over the front.
use mathlib.Core.Path.{◌≡◌, refl, ap, ◌∙◌}
use native.Mathlib.Omega.{arith}
use Prim.Native.Nat.{ℕ}
use mathlib.Core.List.{List}
use lib.ListN.{take, set, length-set}
use lib.Seq.{sets-eq}
use Rattle.words.specs.Bytes.{over, four_bytes}
use Rattle.words.proofs.Lists.{mid_sets}
use Rattle.faults.specs.Faults.{b_slot, b_seq}
use Rattle.frame.specs.Answers.{b_error, card_state, b_status, byte9, header}
use Rattle.frame.proofs.seal_for.Goals as goal

pub returns : goal.returns
unfolding over header four_bytes
returns c =
    let a = c.args in
    let m : List ℕ = a.msg.now in
    let st : ℕ = card_state (b_slot m) a.slot in
    let state : c.state_of-state.result ≡ st = c.state_of-state.ensures.0 ∙ ap (λ (n : ℕ). card_state n a.slot) (omega (arith, c.requires.named)) in
    let status : c.status_of.result ≡ b_status a.fault st = c.status_of.ensures ∙ ap (b_status a.fault) state in
    let last : c.last_of.result ≡ byte9 a.answer_type a.fault st a.slot = c.last_of.ensures ∙ ap (λ (x : ℕ). byte9 a.answer_type a.fault x a.slot) state in
    let hd : ℕ → ℕ → ℕ → ℕ → ℕ → List ℕ = λ n q x y z. over (header a.answer_type a.len n q x y z) a.answer.now in
    let len = c.copy_from_slice.ensures.after ∙ ap (take 4) c.to_le_bytes.ensures in
    record {
      verdict = refl;
      slot = refl;
      buffer =
          ap (λ (l : List ℕ). set (set (set (set (set l 5 a.bslot) 6 c.seq.result) 7 c.status_of.result) 8 c.error_of.result) 9 c.last_of.result)
          (mid_sets 1 (set a.answer.now 0 a.answer_type) {vs = four_bytes a.len} len refl (simp length-set (omega (arith, c.requires.fits))))
          ∙ sets-eq (header a.answer_type a.len a.bslot c.seq.result c.status_of.result c.error_of.result c.last_of.result) a.answer.now 0 (omega (arith, c.requires.fits))
          ∙ ap (λ (n : ℕ). hd n c.seq.result c.status_of.result c.error_of.result c.last_of.result) c.requires.named
          ∙ ap (λ (q : ℕ). hd (b_slot m) q c.status_of.result c.error_of.result c.last_of.result) c.seq.ensures
          ∙ ap (λ (x : ℕ). hd (b_slot m) (b_seq m) x c.error_of.result c.last_of.result) status
          ∙ ap (λ (y : ℕ). hd (b_slot m) (b_seq m) (b_status a.fault st) y c.last_of.result) c.error_of.ensures
          ∙ ap (hd (b_slot m) (b_seq m) (b_status a.fault st) (b_error a.fault)) last;
    }
