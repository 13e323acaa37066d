use Rattle.std.proofs.Common.{◌≡◌, ◌≤◌, length, take}
use Rattle.std.specs.Io.KnownBytes.{Consumes}
use Rattle.grid.proofs.image_reader.fill.Given as goal

-- what came so far stands in the buffer
abbrev pub invariant-loop-came : goal.invariant-loop-came
invariant-loop-came g l = record {
  same : length l.buffer ≡ length l.fn.buffer;
  within : l.came ≤ length l.buffer;
  taken : Consumes (g.R.Read.remaining l.fn.reader) (g.R.Read.remaining l.reader) (take l.came l.buffer);
}

abbrev pub decreases-loop-came : goal.decreases-loop-came
decreases-loop-came g l = l.calls
