-- `bring` meets its contract and ends. The loop's invariant: the unused bytes are those of the start, and behind them what came; each turn
-- that goes on has more of them.
use Rattle.std.proofs.Common.{◌≡◌, false, ◌-◌, ◌≤◌, length, drop}
use Rattle.std.specs.Io.KnownBytes.{Consumes}
use Rattle.records.specs.Records.{record_at}
use Rattle.input.specs.Input.{part, wants, Grows}
use Rattle.input.proofs.bring.Given as goal

abbrev pub invariant-loop-found : goal.invariant-loop-found
invariant-loop-found g l = record {
  ordered : l.at ≤ l.end;
  within : l.end ≤ length l.input;
  same_length : length l.input ≡ length l.initial.input;
  unused : Grows (part l.initial.input l.from l.to) (part l.input l.at l.end);
  taken : Consumes (g.R.Read.remaining l.initial.source.reader) (g.R.Read.remaining l.source.reader) (drop (l.to - l.from) (part l.input l.at l.end));
  no_further : wants (record_at (part l.initial.input l.from l.to) 0) ≡ false
      → (part l.input l.at l.end ≡ part l.initial.input l.from l.to) × (l.source ≡ l.initial.source);
}

abbrev pub decreases-loop-found : goal.decreases-loop-found
decreases-loop-found g l = length l.initial.input - (l.end - l.at)
