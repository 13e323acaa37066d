use Rattle.std.proofs.Common.{None}
use Rattle.gate_poll.specs.Peers.{IsStepped}
use Rattle.gate_poll.proofs.peer.Peer.turn.Given as goal

abbrev pub invariant-calls : goal.invariant-calls
invariant-calls g l = IsStepped l.fn.self l.self None l.fn.lobby l.lobby
