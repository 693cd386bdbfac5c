use Rattle.std.proofs.Common.{◌≡◌, ◌-◌, sym, ap, ◌∙◌, subst, true, List, [], ℕ, take, drop, arith, append-nil, rules}
use Rattle.std.specs.Io.KnownBytes.{Consumes}
use Rattle.records.specs.Records.{record_at}
use Rattle.input.specs.Input.{part, wants, Grows}
use Rattle.input.proofs.InputLaws.{grows_more, taken_more, same_part, more_is, more_part, unsettled, wants_room}
use Rattle.input.proofs.bring.Goals as goal

pub read_more-got-requires : goal.read_more-got-requires
read_more-got-requires g c =
    let l = c.loop-found in
    let h : wants c.read-found.result ≡ true = sym c.wants_more.ensures ∙ c.if-not-wants_more.false in
    omega (arith, wants_room l.at l.end l.input l.invariant.within c.read-found.ensures h, c.slide.auto.input)

pub returns-then-got-eq0-clause-brings : goal.returns-then-got-eq0-clause-brings
returns-then-got-eq0-clause-brings g c =
    let a = c.args in
    let l = c.loop-found in
    let r = c.read_more-got in
    let p = same_part l.at l.end l.input r.new.input l.invariant.within c.slide.ensures r.ensures.places.1 in
    record {
      reading = c.read-found.ensures ∙ ap (λ (b : List ℕ). record_at b 0) p;
      unused = subst (Grows (part a.input.now a.from a.to)) p l.invariant.unused;
      ordered = search rules;
      within = search rules;
    }

pub returns-then-got-eq0-clause-taken : goal.returns-then-got-eq0-clause-taken
returns-then-got-eq0-clause-taken g c =
    let a = c.args in
    let l = c.loop-found in
    let r = c.read_more-got in
    let p = same_part l.at l.end l.input r.new.input l.invariant.within c.slide.ensures r.ensures.places.1 in
    let none = subst (λ (k : ℕ). Consumes (g.R.Read.remaining l.source.reader) (g.R.Read.remaining r.new.source.reader) (take k (drop (l.end - l.at) r.new.input)))
    c.if-got-eq0.true r.ensures.taken in
    taken_more _ _ _ a.from a.to a.input.now [] (omega arith) l.invariant.unused (sym p ∙ sym (append-nil _)) l.invariant.taken none

pub loop-found-preserved : goal.loop-found-preserved
loop-found-preserved g c =
    let a = c.args in
    let l = c.loop-found in
    let r = c.read_more-got in
    let w = l.invariant.within in
    let m : wants c.read-found.result ≡ true = sym c.wants_more.ensures ∙ c.if-not-wants_more.false in
    record {
      ordered = search rules;
      within = search rules;
      same_length = search rules;
      unused = grows_more l.invariant.unused (more_part l.at l.end l.input r.new.input w c.slide.ensures r.ensures.places.1 r.result);
      taken = taken_more _ _ _ a.from a.to a.input.now _ (omega arith) l.invariant.unused
          (more_is l.at l.end l.input r.new.input w c.slide.ensures r.ensures.places.1 r.result) l.invariant.taken r.ensures.taken;
      no_further = λ h. absurd (unsettled _ _ c.read-found.ensures m (l.invariant.no_further h).0 h);
    }
