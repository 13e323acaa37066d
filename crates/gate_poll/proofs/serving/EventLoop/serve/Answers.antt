use Rattle.std.proofs.Common.{refl, inl, arith}
use Rattle.gate_poll.proofs.Hosts.{serves_still}
use Rattle.gate_poll.proofs.LettingGo.{none_gone, gone_then}
use Rattle.gate_poll.proofs.Listening.{serves_none, some_then, listens_then}
use Rattle.gate_poll.proofs.serving.EventLoop.serve.Goals as goal

pub rounds-init : goal.rounds-init
rounds-init g c = (
  serves_none _ c.args.table.now.ids.next c.args.table.now.ids.next c.args.table.now.peers.entries c.args.table.now.turns c.args.lobby.now c.args.lobby.now (serves_still c.args.table.now.ids.next c.args.table.now.ids.next c.args.table.now.peers.entries c.args.table.now.turns c.gateways_are_hosted.ensures.none c.gateways_are_hosted.ensures.wider c.args.lobby.now c.requires.kept (omega arith)),
  none_gone _ _ _,
  c.requires.over,
  inl refl,
)

pub returns-in_err-round-clause-served : goal.returns-in_err-round-clause-served
returns-in_err-round-clause-served g c = some_then g.A.Arrivals.came g.A.Arrivals.secret_at c.args.arrivals.now c.rounds.arrivals c.gateways_are_hosted.ensures.opened_then c.args.table.now.ids.next c.rounds.table.ids.next c.round.new.table.ids.next c.rounds.table.peers.entries c.round.new.table.peers.entries c.rounds.table.turns c.round.new.table.turns c.args.lobby.now c.rounds.lobby c.round.new.lobby c.rounds.invariant.3 c.rounds.invariant.0 c.round.ensures.served

pub returns-then-branch-clause-served : goal.returns-then-branch-clause-served
returns-then-branch-clause-served g c = some_then g.A.Arrivals.came g.A.Arrivals.secret_at c.args.arrivals.now c.rounds.arrivals c.gateways_are_hosted.ensures.opened_then c.args.table.now.ids.next c.rounds.table.ids.next c.round.new.table.ids.next c.rounds.table.peers.entries c.round.new.table.peers.entries c.rounds.table.turns c.round.new.table.turns c.args.lobby.now c.rounds.lobby c.round.new.lobby c.rounds.invariant.3 c.rounds.invariant.0 c.round.ensures.served

pub rounds-preserved : goal.rounds-preserved
rounds-preserved g c = (
  some_then g.A.Arrivals.came g.A.Arrivals.secret_at c.args.arrivals.now c.rounds.arrivals c.gateways_are_hosted.ensures.opened_then c.args.table.now.ids.next c.rounds.table.ids.next c.round.new.table.ids.next c.rounds.table.peers.entries c.round.new.table.peers.entries c.rounds.table.turns c.round.new.table.turns c.args.lobby.now c.rounds.lobby c.round.new.lobby c.rounds.invariant.3 c.rounds.invariant.0 c.round.ensures.served,
  gone_then _ _ _ c.args.table.now.peers.entries c.rounds.table.peers.entries c.round.new.table.peers.entries c.args.lobby.now c.rounds.lobby c.round.new.lobby c.rounds.invariant.1 c.round.ensures.let_go,
  c.round.ensures.over,
  listens_then c.args.arrivals.now c.rounds.arrivals c.round.new.arrivals c.rounds.invariant.3 c.round.ensures.listens,
)
