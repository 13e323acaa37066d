use Rattle.std.proofs.Common.{◌≡◌, length}
use Rattle.http_edge.specs.FramingState.{frame_from}
use Rattle.http_edge.proofs.conn.Conn.next_head.Given as goal

-- what is left completes the same items
abbrev pub invariant-loop-self : goal.invariant-loop-self
invariant-loop-self l = frame_from l.self l.bytes ≡ frame_from l.fn.self l.fn.piece

abbrev pub decreases-loop-self : goal.decreases-loop-self
decreases-loop-self l = length l.bytes
