use Rattle.std.proofs.Common.{◌≤◌, length, take}
use Rattle.std.specs.Io.KnownBytes.{Appends}
use Rattle.octets.proofs.writing.write_whole.Given as goal

-- a beginning of the bytes was written
abbrev pub invariant-loop-written : goal.invariant-loop-written
invariant-loop-written g l = record {
  within : l.written ≤ length l.bytes;
  done : Appends (g.W.Write.contents l.fn.writer) (g.W.Write.contents l.writer) (take l.written l.bytes);
  fewer : l.calls ≤ l.fn.calls;
}

abbrev pub decreases-loop-written : goal.decreases-loop-written
decreases-loop-written g l = l.calls
