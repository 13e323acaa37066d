use Rattle.std.proofs.Common.{◌≡◌, ◌++◌, length}
use Rattle.http_edge.specs.FramingState.{frame_from, rest_from}
use Rattle.http_edge.proofs.conn.Conn.add_all.Given as goal

abbrev pub invariant-loop-bytes : goal.invariant-loop-bytes
invariant-loop-bytes l = record {
  items : l.items.items ++ frame_from l.self l.bytes ≡ l.fn.items.items ++ frame_from l.fn.self l.fn.piece;
  left : rest_from l.self l.bytes ≡ rest_from l.fn.self l.fn.piece;
}

abbrev pub decreases-loop-bytes : goal.decreases-loop-bytes
decreases-loop-bytes l = length l.bytes
