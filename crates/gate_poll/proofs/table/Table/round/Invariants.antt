use Rattle.gate_turns.specs.Lanes.{turns_due}
use Rattle.gate_poll.specs.Table.{Serves, LetsGo}
use Rattle.gate_poll.proofs.table.Table.round.Given as goal

abbrev pub invariant-turns : goal.invariant-turns
invariant-turns g l = Serves l.fn.self l.self l.fn.lobby l.lobby × LetsGo (g.F.Forget.forgot l.fn.forgets) (g.F.Forget.forgot l.forgets) l.fn.self l.self l.fn.lobby l.lobby

abbrev pub decreases-turns : goal.decreases-turns
decreases-turns g l = turns_due l.self.turns.lanes
