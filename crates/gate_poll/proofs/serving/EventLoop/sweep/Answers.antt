use Rattle.std.proofs.Common.{refl, arith}
use Rattle.gate_poll.proofs.Hosts.{serves_still}
use Rattle.gate_poll.proofs.LettingGo.{none_gone}
use Rattle.gate_poll.proofs.serving.EventLoop.sweep.Goals as goal

pub returns-then-lt-clause-served : goal.returns-then-lt-clause-served
returns-then-lt-clause-served g c = serves_still c.args.table.now.ids.next c.args.table.now.ids.next c.args.table.now.peers.entries c.args.table.now.turns c.gateways_are_hosted.ensures.none c.gateways_are_hosted.ensures.wider c.args.lobby.now c.requires (omega arith)

pub returns-then-lt-clause-due : goal.returns-then-lt-clause-due
returns-then-lt-clause-due g c = refl

pub sweep-requires : goal.sweep-requires
sweep-requires g c = c.requires

pub returns-clause-served : goal.returns-clause-served
returns-clause-served g c = c.sweep.ensures.served

pub returns-clause-due : goal.returns-clause-due
returns-clause-due g c = c.sweep.ensures.due

pub returns-then-lt-clause-let_go : goal.returns-then-lt-clause-let_go
returns-then-lt-clause-let_go g c = none_gone _ _ _

pub returns-clause-let_go : goal.returns-clause-let_go
returns-clause-let_go g c = c.sweep.ensures.let_go
