use Rattle.std.proofs.Common.{length}
use Rattle.gate_flow.specs.Hosted.{IsHosted}
use Rattle.gate_poll.specs.Table.{AreOwnPeers, LetsGo}
use Rattle.gate_poll.proofs.table.Table.give_up_all.Given as goal

abbrev pub invariant-all : goal.invariant-all
invariant-all g l = AreOwnPeers l.fn.self.ids.next l.self.peers.entries × IsHosted 1 l.fn.self.ids.next l.fn.lobby l.lobby × LetsGo (g.F.Forget.forgot l.fn.forgets) (g.F.Forget.forgot l.forgets) l.fn.self l.self l.fn.lobby l.lobby

abbrev pub decreases-all : goal.decreases-all
decreases-all g l = length l.self.peers.entries
