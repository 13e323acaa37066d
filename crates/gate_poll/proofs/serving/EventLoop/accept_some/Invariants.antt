use Rattle.std.proofs.Common.{◌≡◌}
use Rattle.gate_turns.specs.Lanes.{turns_due}
use Rattle.gate_poll.specs.Secrets.{IsUnderSome}
use Rattle.gate_poll.specs.Table.{ServesUnder, LetsGo}
use Rattle.gate_poll.proofs.serving.EventLoop.accept_some.Given as goal

abbrev pub invariant-attempts : goal.invariant-attempts
invariant-attempts g l =
    ServesUnder (IsUnderSome g.A.Arrivals.came g.A.Arrivals.secret_at l.fn.arrivals l.fn.lobby.settings.secret) l.fn.table l.table l.fn.lobby l.lobby
    × LetsGo (g.F.Forget.forgot l.fn.forgets) (g.F.Forget.forgot l.forgets) l.fn.table l.table l.fn.lobby l.lobby × (turns_due l.table.turns.lanes ≡ turns_due l.fn.table.turns.lanes)
