-- `store` meets its contract: the lent tail comes back with the data laid over it.
use mathlib.Core.Path.{sym, ap, ◌∙◌}
use native.Mathlib.Omega.{arith}
use Prim.Native.Nat.{ℕ, ◌+◌}
use lib.ListN.{length, take, drop}
use mathlib.Core.List.{List, ◌++◌}
use Rattle.words.specs.Bytes.{over}
use mathlib.Core.List.{append_assoc}
use lib.Seq.{sets-eq, drop-drop}
use Rattle.words.proofs.Lists.{lent_tail}
use Rattle.pages.proofs.store.Goals as goal

pub returns : goal.returns
unfolding over
returns c =
    let a = c.args in
    lent_tail a.at a.image.now a.«data».now c.lay.ensures
    ∙ ap (λ (t : List ℕ). take a.at a.image.now ++ (a.«data».now ++ t)) (drop-drop (length a.«data».now) a.at a.image.now)
    ∙ sym (append_assoc (take a.at a.image.now) a.«data».now (drop (a.at + length a.«data».now) a.image.now))
    ∙ sym (sets-eq a.«data».now a.image.now a.at (omega arith))
