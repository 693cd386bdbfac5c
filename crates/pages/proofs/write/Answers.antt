-- `write` meets its contract: where nothing runs round a page write is a store.
use mathlib.Core.Path.{sym, ◌∙◌}
use native.Mathlib.Omega.{arith}
use Rattle.pages.proofs.PageLaws.{page_stores}
use Rattle.pages.proofs.write.Goals as goal

pub returns-then-chip-reader-eq0 : goal.returns-then-chip-reader-eq0
returns-then-chip-reader-eq0 c =
    let a = c.args in
    c.store.ensures
    ∙ sym (page_stores a.reader a.chip (omega arith) (omega arith) c.if-chip-reader-eq0.true a.image.now a.at a.«data».now)
