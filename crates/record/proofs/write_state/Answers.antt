-- `write_state` meets its contract: the flags, the eight bytes of the parameters and the two of a count are those that it says.
use mathlib.Core.Path.{ap, ap₂, ◌∙◌}
use native.Mathlib.Omega.{arith}
use Prim.Native.Nat.{ℕ, ◌<◌}
use mathlib.Core.List.{List, [], ◌∷◌}
use lib.Seq.{sets}
use Rattle.words.specs.Bytes.{byte, low_first}
use Rattle.record.proofs.RawLaws.{flag_byte, two_low}
use Rattle.record.proofs.write_state.Goals as goal

pub returns : goal.returns
unfolding low_first
returns c =
    let s = c.args.slot in
    let f : ℕ → ℕ → List ℕ = λ on op. sets c.args.raw.now 1 (on ∷ s.selected ∷ s.page ∷ op ∷ low_first 7 s.set) in
    let g : List ℕ → ℕ → List ℕ → List ℕ = λ two last l. sets l 13 (s.tries ∷ byte two 0 ∷ byte two 1 ∷ last ∷ []) in
    let fits : s.protected < 65536 = omega arith in
    ap (λ (two : List ℕ). g two c.from-3.result c.put_eight.new.out) (c.to_le_bytes-counted.ensures ∙ two_low s.protected fits)
    ∙ ap₂ (g (low_first 1 s.protected)) (c.from-3.ensures ∙ flag_byte s.chosen)
    (c.put_eight.ensures ∙ ap₂ f (c.from.ensures ∙ flag_byte s.active) (c.from-2.ensures ∙ flag_byte s.«open»))
