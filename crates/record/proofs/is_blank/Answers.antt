-- `is_blank` meets its contract: each number is 0 where its bytes are 00h, and they cover the rest, byte 24 twice.
use mathlib.Core.Path.{◌≡◌, refl, sym, ap, ◌∙◌}
use native.Mathlib.Omega.{arith}
use Prim.Native.Nat.{ℕ}
use borrow.Author.Tests.{eq-eqb, ne_eqb}
use Rattle.words.specs.Choice.{◌is◌}
use Rattle.words.specs.Bytes.{byte, eight_at}
use Rattle.words.proofs.Choices.{and_holds}
use Rattle.words.proofs.Lists.{blank_step}
use Rattle.record.proofs.RawLaws.{eight_zero, eight_more, eight_last, blank_last}
use Rattle.record.proofs.is_blank.Goals as goal

pub returns-then-eight_at-eq0 : goal.returns-then-eight_at-eq0
returns-then-eight_at-eq0 c =
    let r = c.args.raw.now in
    let none : eight_at r 17 ≡ 0 = sym c.eight_at.ensures ∙ c.if-eight_at-eq0.true in
    ap (λ (n : ℕ). n is 0) c.eight_at-then-eight_at-eq0.ensures
    ∙ blank_last r c.requires
    ∙ blank_step r 24 25 refl (omega arith)
    ∙ sym (and_holds (eq-eqb (byte r 24) 0 (eight_last r none)) refl)
    ∙ eight_zero r 17 (omega arith) none

pub returns-else-eight_at-eq0 : goal.returns-else-eight_at-eq0
returns-else-eight_at-eq0 c =
    let some = c.if-eight_at-eq0.false in
    ne_eqb _ 0 some ∙ eight_more c.args.raw.now 17 (omega arith) (λ e. some (c.eight_at.ensures ∙ e))
