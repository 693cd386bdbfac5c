-- `read_shown` meets its contract: an open card shows its bytes, and of a closed one the code is blanked as in the image.
use mathlib.Core.Path.{ap, ◌∙◌}
use mathlib.Core.List.{List}
use Prim.Native.Nat.{ℕ, ◌+◌}
use native.Mathlib.Omega.{arith}
use Rattle.words.specs.Bytes.{over}
use Rattle.reads.specs.Inner.{blanked}
use Rattle.reads.proofs.ReadLaws.{read_open, read_closed}
use Rattle.reads.proofs.read_shown.Goals as goal

pub returns-then-open : goal.returns-then-open
returns-then-open c =
    let a = c.args in
    c.read.ensures ∙ ap (λ (l : List ℕ). over l a.out.now) (read_open a.code a.digits a.image.now a.at a.n c.if-open.true)

pub returns : goal.returns
returns c =
    let a = c.args in
    c.blank.ensures
    ∙ ap (blanked a.at (a.at + a.n) a.code a.digits) c.read.ensures
    ∙ read_closed a.code a.digits a.image.now a.out.now a.at a.n c.if-open.false (omega arith) (omega arith)
