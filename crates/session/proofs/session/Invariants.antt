-- `session` meets its contract and ends. The loop's invariant: the unused bytes lie in the buffer, and whatever course goes on from here is one
-- from the start, with what was taken from the reader and written to the writer.
use Rattle.std.proofs.Common.{◌≡◌, ◌≤◌, length}
use Rattle.session.specs.Courses.{Between}
use Rattle.session.proofs.session.Given as goal

abbrev pub invariant-loop : goal.invariant-loop
invariant-loop g l = record {
  ordered : l.at ≤ l.end;
  within : l.end ≤ length l.input;
  same_length : length l.input ≡ length l.initial.input;
  between : Between (g.R.Read.remaining l.initial.source.reader) (g.R.Read.remaining l.source.reader) (g.W.Write.contents l.initial.output)
      (g.W.Write.contents l.output) l.initial.input l.initial.held l.initial.image l.input l.at l.end l.held l.image;
}
