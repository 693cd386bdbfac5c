-- A verdict is told by its number and its length: no refusal is 0, and no two have one number.
use Prim.Native.Nat.{ℕ, ◌<◌}
use mathlib.Core.Path.{◌≡◌, refl, sym, ap, ◌∙◌}
use native.Mathlib.Omega.{arith}
use Rattle.std.specs.Prelude.{Result, Ok, Err}
use Rattle.words.specs.Choice.{◌⇒◌⁏◌, ◌is◌}
use Rattle.slot.specs.declared.Slot.{Slot}
use Rattle.frame.specs.declared.Refusal.{Refusal}
use Rattle.frame.specs.declared.Reply.{Reply}
use Rattle.frame.specs.Exchange.{number_of, number, answer_length}

pub refused_some : (r : Refusal) → 0 < number_of r
refused_some Refusal.Buffer = omega arith
refused_some Refusal.Message = omega arith
refused_some Refusal.Image = omega arith
refused_some Refusal.Record = omega arith
refused_some Refusal.Occupied = omega arith

refusal_of : ℕ → Refusal
refusal_of n = n is 1 ⇒ Refusal.Buffer ⁏ n is 2 ⇒ Refusal.Message ⁏ n is 3 ⇒ Refusal.Image ⁏ n is 4 ⇒ Refusal.Record ⁏ Refusal.Occupied

refusal_told : (r : Refusal) → refusal_of (number_of r) ≡ r
unfolding refusal_of ◌⇒◌⁏◌
refusal_told Refusal.Buffer = refl
refusal_told Refusal.Message = refl
refusal_told Refusal.Image = refl
refusal_told Refusal.Record = refl
refusal_told Refusal.Occupied = refl

refusal_only : (r r' : Refusal) → number_of r ≡ number_of r' → r ≡ r'
refusal_only r r' e = sym (refusal_told r) ∙ ap refusal_of e ∙ refusal_told r'

pub verdict_only : (v w : Result ℕ Refusal) → number v ≡ number w → answer_length v ≡ answer_length w → v ≡ w
verdict_only (Ok n) (Ok k) e l = ap Ok l
verdict_only (Ok n) (Err r) e l = absurd (omega (arith, refused_some r, e))
verdict_only (Err r) (Ok n) e l = absurd (omega (arith, refused_some r, e))
verdict_only (Err r) (Err r') e l = ap Err (refusal_only r r' e)

abbrev replying : Result ℕ Refusal → Slot → Reply
replying v s = record { verdict = v; slot = s }

pub reply_only : (r r' : Reply) → r.verdict ≡ r'.verdict → r.slot ≡ r'.slot → r ≡ r'
reply_only r r' e h = ap (λ (v : Result ℕ Refusal). replying v r.slot) e ∙ ap (replying r'.verdict) h
