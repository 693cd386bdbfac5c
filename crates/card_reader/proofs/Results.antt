-- Laws of the one number that C gets: it fits, and it is the verdict's.
use mathlib.Core.Path.{◌≡◌, refl, ap, ◌∙◌}
use Prim.Native.Nat.{ℕ, ◌≤◌}
use mathlib.Core.List.{List}
use native.Mathlib.Omega.{arith}
use lib.ListN.{length}
use lib.IntN.{ℤ, pos, ◌-ℤ◌}
use mir.Syntax.{w32}
use mir.Val.{SFits, to_z, of_z}
use mir.ValLaws.{to_z_pos}
use Rattle.std.specs.Prelude.{Result, Ok, Err}
use Rattle.words.specs.Bounds.{longest_answer}
use Rattle.frame.specs.declared.Refusal.{Refusal}
use Rattle.frame.specs.Exchange.{number_of, number, answer_length}
use Rattle.calls.specs.Calls.{RawOutcome, RawGives, result_of, Returns}

-- a number that fits 32 bits comes back from them
pub refusal_number : (f : Refusal) → to_z w32 (of_z w32 (result_of (number_of f) 0)) ≡ result_of (number_of f) 0
refusal_number Refusal.Buffer = refl
refusal_number Refusal.Message = refl
refusal_number Refusal.Image = refl
refusal_number Refusal.Record = refl
refusal_number Refusal.Occupied = refl

-- a refusal's number, taken from 0
pub minus_fits : (f : Refusal) → SFits w32 (pos 0 -ℤ to_z w32 (number_of f))
minus_fits Refusal.Buffer = record { sfits = omega arith }
minus_fits Refusal.Message = record { sfits = omega arith }
minus_fits Refusal.Image = record { sfits = omega arith }
minus_fits Refusal.Record = record { sfits = omega arith }
minus_fits Refusal.Occupied = record { sfits = omega arith }

pub minus_told : (f : Refusal) → to_z w32 (of_z w32 (pos 0 -ℤ to_z w32 (number_of f))) ≡ result_of (number_of f) 0
minus_told Refusal.Buffer = refl
minus_told Refusal.Message = refl
minus_told Refusal.Image = refl
minus_told Refusal.Record = refl
minus_told Refusal.Occupied = refl

verdict_number : (v : Result ℕ Refusal) → answer_length v ≤ longest_answer → to_z w32 (of_z w32 (result_of (number v) (answer_length v))) ≡ result_of (number v) (answer_length v)
verdict_number (Ok n) h = to_z_pos w32 n (omega (arith, h))
verdict_number (Err f) h = refusal_number f

-- what a call gives, as one number
pub returns_number : {o : RawOutcome} {v : Result ℕ Refusal} {left image was holds : List ℕ} {z : ℤ} → RawGives o v left image was holds → length o.answer ≤ longest_answer
    → z ≡ result_of (number v) (answer_length v) → Returns o (to_z w32 (of_z w32 z)) left image was holds
returns_number {o} {v} {z = z} g h e = record {
  result =
      ap (λ (y : ℤ). to_z w32 (of_z w32 y)) e
      ∙ verdict_number v (omega (arith, h, g.len))
      ∙ ap (λ (n : ℕ). result_of n (answer_length v)) g.number
      ∙ ap (result_of o.number) g.len;
  raw = g.raw;
  image = g.image;
  buffer = g.buffer;
}
