use Rattle.std.proofs.Common.{◌≡◌}
use Rattle.gate_turns.specs.Lanes.{turns_due}
use Rattle.gate_poll.specs.Table.{Serves, LetsGo}
use Rattle.gate_poll.proofs.table.Table.sweep.Given as goal

abbrev pub invariant-late : goal.invariant-late
invariant-late g l = Serves l.fn.self l.self l.fn.lobby l.lobby × LetsGo (g.F.Forget.forgot l.fn.forgets) (g.F.Forget.forgot l.forgets) l.fn.self l.self l.fn.lobby l.lobby × (turns_due l.self.turns.lanes ≡ turns_due l.fn.self.turns.lanes)
