use mathlib.Core.Path.{◌≡◌, sym, ap, ◌∙◌, subst}
use native.Mathlib.Omega.{arith}
use native.Mathlib.Nat.{mod-lt}
use Prim.Native.Nat.{ℕ, ◌+◌, ◌%◌, ◌≤◌, ◌<◌}
use lib.ListN.{length}
use lib.Seq.{length-sets}
use Rattle.pages.specs.Pages.{cut_start, lands, page_write}
use Rattle.pages.proofs.PageLaws.{cut_le, lands_inside, page_inside, write_run, write_end}
use Rattle.pages.proofs.write_round.Goals as goal
use Rattle.pages.proofs.write_round.Goals.{After-cut_start-start, After-landing-to, After-split_at}

-- the cut starts at the address or before
cut_before : (c : After-cut_start-start) → c.cut_start-start.result ≤ c.loop-left.a
cut_before c = rw c.cut_start-start.ensures (cut_le c.args.reader c.loop-left.start c.loop-left.a c.loop-left.invariant.cut)

pub landing-to-requires : goal.landing-to-requires
landing-to-requires c = (omega arith, omega arith, cut_before (goal.at.landing-to-requires c).After-cut_start-start, omega arith)

-- there is a byte to write, so that its address lies in the image
some_left : (c : After-cut_start-start) → c.loop-left.a < length c.loop-left.image
some_left c = grind arith

-- where the run lands, by the rule
landed : (c : After-landing-to) → let l = c.loop-left in c.landing-to.result ≡ lands c.args.chip (cut_start c.args.reader l.start l.a) l.a
landed c = c.landing-to.ensures ∙ ap (λ (n : ℕ). lands c.args.chip n c.loop-left.a) c.cut_start-start.ensures

-- the run goes no further than the reader page, the chip page and the image
run_reader : (c : After-split_at) → c.loop-left.a % c.args.reader + length c.split_at.result.0.now ≤ c.args.reader
run_reader c = omega (arith, mod-lt c.loop-left.a c.requires.1)

run_chip : (c : After-split_at) → c.landing-to.result % c.args.chip + length c.split_at.result.0.now ≤ c.args.chip
run_chip c = omega (arith, mod-lt c.landing-to.result c.requires.2)

run_inside : (c : After-split_at) → c.landing-to.result + length c.split_at.result.0.now ≤ length c.loop-left.image
run_inside c =
    let a = c.args in
    let l = c.loop-left in
    let whole : length l.image % a.chip ≡ 0 = rw l.invariant.same_length c.requires.3.whole in
    let to : c.landing-to.result < length l.image =
    rw c.landing-to.ensures (lands_inside a.chip c.cut_start-start.result l.a (length l.image) c.requires.2
    (cut_before (goal.at.After-split_at c).After-cut_start-start) (some_left (goal.at.After-split_at c).After-cut_start-start) whole) in
    page_inside a.chip c.landing-to.result (length c.split_at.result.0.now) (length l.image) c.requires.2 to whole (run_chip c)

pub store-requires : goal.store-requires
store-requires c = run_inside (goal.at.store-requires c).After-split_at

pub loop-left-preserved : goal.loop-left-preserved
loop-left-preserved c =
    let a = c.args in
    let l = c.loop-left in
    let on = goal.at.loop-left-preserved c in
    let to = landed on.After-landing-to in
    let run = c.split_at.result.0.now in
    let rest = c.split_at.result.1.now in
    let same : length c.store.new.image ≡ length l.image = ap length c.store.ensures ∙ length-sets l.image c.landing-to.result run in
    record {
      cut = omega (arith, cut_before on.After-cut_start-start);
      inside = omega arith;
      same_length = same ∙ l.invariant.same_length;
      whole = l.invariant.whole
          ∙ ap (page_write a.reader a.chip l.image l.start l.a) c.split_at.ensures.by_index.0
          ∙ write_run a.reader a.chip l.image l.start l.a run rest l.invariant.cut (run_reader on.After-split_at)
          (subst (λ (n : ℕ). n % a.chip + length run ≤ a.chip) to (run_chip on.After-split_at))
          ∙ rw (c.store.ensures, c.cut_start-start.ensures, to);
    }

pub returns : goal.returns
returns c =
    let l = c.loop-left in
    sym (l.invariant.whole ∙ write_end c.args.reader c.args.chip l.image l.start l.a l.left.now (grind arith))
