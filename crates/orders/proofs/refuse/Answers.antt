-- `refuse` meets its contract: the status word is all that is said.
use mathlib.Core.Path.{◌≡◌, refl, ap, ◌∙◌}
use native.Mathlib.Omega.{arith}
use Prim.Native.Nat.{ℕ}
use lib.ListN.{length}
use mathlib.Core.List.{List, [], ◌∷◌}
use Rattle.words.specs.Bytes.{byte, over}
use Rattle.words.proofs.Lists.{over_pair}
use Rattle.steps.specs.declared.Status.{Status}
use Rattle.steps.specs.Steps.{word_of}
use Rattle.orders.specs.Orders.{said_by, image_by, slot_by, performed}
use Rattle.orders.proofs.refuse.Goals as goal

-- a status word is its two bytes
two : (s : Status) → byte (word_of s) 0 ∷ byte (word_of s) 1 ∷ [] ≡ word_of s
two Status.Length = refl
two Status.Class = refl
two Status.Instruction = refl
two Status.Unselected = refl
two Status.Place = refl
two Status.Value = refl
two Status.Denied = refl

pub returns : goal.returns
unfolding performed said_by image_by slot_by
returns c =
    λ f image b.
    let said : byte c.word-word.result 0 ∷ byte c.word-word.result 1 ∷ [] ≡ word_of c.args.status =
    ap (λ (w : List ℕ). byte w 0 ∷ byte w 1 ∷ []) c.word-word.ensures ∙ two c.args.status in
    record {
      len = c.put_two-len.ensures.0 ∙ ap length said;
      slot = refl;
      image = refl;
      out = c.put_two-len.ensures.1 ∙ over_pair c.args.out.now _ _ (omega arith) ∙ ap (λ (l : List ℕ). over l c.args.out.now) said;
    }
