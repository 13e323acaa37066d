use Rattle.std.proofs.Common.{◌≡◌, ◌⊎◌, None}
use Rattle.gate_turns.specs.Lanes.{turns_due}
use Rattle.gate_poll.specs.Secrets.{IsUnderSome}
use Rattle.gate_poll.specs.Table.{ServesUnder, LetsGo}
use Rattle.gate_poll.proofs.serving.EventLoop.serve.Given as goal

abbrev pub invariant-rounds : goal.invariant-rounds
invariant-rounds g l =
    ServesUnder (IsUnderSome g.A.Arrivals.came g.A.Arrivals.secret_at l.fn.arrivals l.fn.lobby.settings.secret) l.fn.table l.table l.fn.lobby l.lobby
    × LetsGo (g.F.Forget.forgot l.fn.forgets) (g.F.Forget.forgot l.forgets) l.fn.table l.table l.fn.lobby l.lobby
    × (turns_due l.table.turns.lanes ≡ 0)
    × ((l.arrivals ≡ l.fn.arrivals) ⊎ (l.arrivals ≡ None))
