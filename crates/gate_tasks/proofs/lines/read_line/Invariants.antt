use Rattle.std.proofs.Common.{◌≡◌, length, true, false}
use Rattle.std.specs.Io.KnownBytes.{Consumes}
use Rattle.gate_tasks.specs.Lines.{LacksLf, fits}
use Rattle.gate_tasks.proofs.lines.read_line.Given as goal

-- the line so far was taken of the reader
abbrev pub invariant-loop : goal.invariant-loop
invariant-loop g l = record {
  taken : Consumes (g.R.Read.remaining l.fn.reader) (g.R.Read.remaining l.reader) l.line.items;
  lacks : LacksLf l.line.items;
  within : fits l.read (length l.line.items) false ≡ true;
}
