use Rattle.std.proofs.Common.{◌≡◌, true, arith, rules, ◌∙◌}
use Rattle.input.proofs.InputLaws.{brought_whole}
use Rattle.session.proofs.Told.{between_start, between_turn, not_whole, passed_end, all_printed}
use Rattle.session.proofs.session.Goals as goal

pub loop-init : goal.loop-init
loop-init g c = record {
  ordered = search rules;
  within = search rules;
  same_length = search rules;
  between = between_start _ _ _ _ _;
}

pub returns-in_default : goal.returns-in_default
returns-in_default g c =
    let l = c.loop.invariant in
    let b = c.bring-brought in
    let s = c.start-held.ensures in
    let o = not_whole b.result.found c.in_default.not-Ok in
    let passed = λ (y : c.hand.result ≡ true).
    passed_end _ _ _ _ _ _ l.between l.within b.ensures.brings b.ensures.taken s.0 s.1 o c.leave-n.ensures (c.hand.ensures y) in
    record {
      ran = λ y. (passed y).ran;
      passed = passed;
      prints = λ y f.
          all_printed _ _ _ _ _ _ l.between l.within b.ensures.brings b.ensures.taken s.0 s.1 o c.leave-n.ensures (c.hand.ensures y)
          (λ h. b.ensures.ended h f);
    }

pub overflow_add-first : goal.overflow_add-first
overflow_add-first g c = omega (arith, brought_whole c.bring-brought.ensures.brings c.in-Ok.is)

pub overflow_add-last : goal.overflow_add-last
overflow_add-last g c = omega (arith, brought_whole c.bring-brought.ensures.brings c.in-Ok.is)

pub slice_bounds-turn-count : goal.slice_bounds-turn-count
slice_bounds-turn-count g c = omega (arith, brought_whole c.bring-brought.ensures.brings c.in-Ok.is)

pub slice_bounds-turn-start : goal.slice_bounds-turn-start
slice_bounds-turn-start g c = omega (arith, brought_whole c.bring-brought.ensures.brings c.in-Ok.is)

pub slice_bounds-turn-end : goal.slice_bounds-turn-end
slice_bounds-turn-end g c = omega (arith, brought_whole c.bring-brought.ensures.brings c.in-Ok.is)

pub loop-preserved : goal.loop-preserved
loop-preserved g c =
    let l = c.loop.invariant in
    let b = c.bring-brought in
    let w = brought_whole b.ensures.brings c.in-Ok.is in
    record {
      ordered = w.1;
      within = w.2;
      same_length = b.auto.input ∙ l.same_length;
      between = between_turn _ _ _ _ _ _ l.between l.within b.ensures.brings b.ensures.taken c.in-Ok.is c.turn-turned.ensures (c.hand-in-loop.ensures c.if-not-hand.false);
    }
