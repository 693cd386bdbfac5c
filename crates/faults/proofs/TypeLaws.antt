-- A type byte that is none of the supported ones, as a match leaves it: what was passed by then, in a row.
use mathlib.Core.Path.{◌≡◌, ap}
use mathlib.Core.Logic.{◌≢◌, ◌⊎◌, ⊎_elim}
use Prim.Native.Nat.{ℕ}
use borrow.Author.Tests.{ne_eqb}
use Rattle.words.specs.Choice.{◌⇒◌⁏◌}
use Rattle.faults.specs.declared.Request.TheVariants.{Unsupported}
use Rattle.faults.specs.Faults.{request_of}

module _ (b : ℕ) {A B : Type 0} where
  pub other_type_lem : (((((((A × (b ≢ 0x61)) × (b ≢ 0x62)) × (b ≢ 0x63)) × (b ≢ 0x65)) × (b ≢ 0x6C)) × (b ≢ 0x6D)) × (b ≢ 0x6F)) × B → request_of b ≡ Unsupported
  unfolding request_of ◌⇒◌⁏◌
  other_type_lem r =
      simp (
        ne_eqb b 0x61 r.0.0.0.0.0.0.0.1,
        ne_eqb b 0x62 r.0.0.0.0.0.0.1,
        ne_eqb b 0x63 r.0.0.0.0.0.1,
        ne_eqb b 0x65 r.0.0.0.0.1,
        ne_eqb b 0x6C r.0.0.0.1,
        ne_eqb b 0x6D r.0.0.1,
        ne_eqb b 0x6F r.0.1,
      )

-- the two that stand alone between supported ones
pub lone_type : {b : ℕ} → (b ≡ 0x64) ⊎ (b ≡ 0x6E) → request_of b ≡ Unsupported
unfolding request_of ◌⇒◌⁏◌
lone_type = ⊎_elim (ap request_of) (ap request_of)
