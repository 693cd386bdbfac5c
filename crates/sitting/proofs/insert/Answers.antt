-- `insert` meets its contract: the kind byte and the image behind it, or a kind that is none.
use mathlib.Core.Path.{◌≡◌, sym, ap, ◌∙◌}
use Prim.Native.Nat.{ℕ}
use mathlib.Core.List.{List, []}
use lib.ListN.{take, drop}
use Rattle.words.specs.Bytes.{byte}
use Rattle.words.proofs.Lists.{tail_is}
use Rattle.sitting.specs.Sittings.{inserting, outcome_of}
use Rattle.words.proofs.Lists.{empty_list}
use Rattle.sitting.proofs.Holding.{leaves_is}
use Rattle.sitting.proofs.insert.Goals as goal

pub returns-then-body-eq0 : goal.returns-then-body-eq0
unfolding outcome_of
returns-then-body-eq0 c =
    let a = c.args in
    let n : a.body.now ≡ [] = empty_list a.body.now c.if-body-eq0.true in
    λ was. leaves_is (ap (λ (b : List ℕ). inserting a.slot (byte b 0) (drop 1 b) (take a.size a.image.now)) n
    ∙ ap (λ (b : List ℕ). inserting a.slot 0 b (take a.size a.image.now)) (sym n)) (c.put_in.ensures was)

pub returns : goal.returns
unfolding outcome_of
returns c =
    let a = c.args in
    λ was. leaves_is (ap (λ (b : List ℕ). inserting a.slot (byte a.body.now 0) b (take a.size a.image.now))
    (sym (tail_is 1 a.body.now))) (c.put_in-2.ensures was)
