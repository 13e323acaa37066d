use Rattle.std.proofs.Common.{◌≡◌}
use Rattle.gate_poll.proofs.peer.Peer.drop_some.Given as goal

abbrev pub invariant-reads : goal.invariant-reads
invariant-reads l = (l.self.flow ≡ l.fn.self.flow) × (l.self.lingers ≡ l.fn.self.lingers)
