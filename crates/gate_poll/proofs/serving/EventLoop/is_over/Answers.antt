use Rattle.std.proofs.Common.{refl, arith}
use Rattle.gate_poll.proofs.Hosts.{serves_still}
use Rattle.gate_poll.proofs.LettingGo.{none_gone}
use Rattle.gate_poll.proofs.serving.EventLoop.is_over.Goals as goal

pub returns-then-is_asked-clause-served : goal.returns-then-is_asked-clause-served
returns-then-is_asked-clause-served g c = serves_still c.args.table.now.ids.next c.args.table.now.ids.next c.args.table.now.peers.entries c.args.table.now.turns c.gateways_are_hosted.ensures.none c.gateways_are_hosted.ensures.wider c.args.lobby.now c.requires (omega arith)

pub returns-then-is_asked-clause-due : goal.returns-then-is_asked-clause-due
returns-then-is_asked-clause-due g c = refl

pub returns-then-table-most-clause-served : goal.returns-then-table-most-clause-served
returns-then-table-most-clause-served g c = serves_still c.args.table.now.ids.next c.args.table.now.ids.next c.args.table.now.peers.entries c.args.table.now.turns c.gateways_are_hosted.ensures.none c.gateways_are_hosted.ensures.wider c.args.lobby.now c.requires (omega arith)

pub returns-then-table-most-clause-due : goal.returns-then-table-most-clause-due
returns-then-table-most-clause-due g c = refl

pub returns-else-table-most-clause-served : goal.returns-else-table-most-clause-served
returns-else-table-most-clause-served g c = serves_still c.args.table.now.ids.next c.args.table.now.ids.next c.args.table.now.peers.entries c.args.table.now.turns c.gateways_are_hosted.ensures.none c.gateways_are_hosted.ensures.wider c.args.lobby.now c.requires (omega arith)

pub returns-else-table-most-clause-due : goal.returns-else-table-most-clause-due
returns-else-table-most-clause-due g c = refl

pub returns-in-None-clause-served : goal.returns-in-None-clause-served
returns-in-None-clause-served g c = serves_still c.args.table.now.ids.next c.args.table.now.ids.next c.args.table.now.peers.entries c.args.table.now.turns c.gateways_are_hosted.ensures.none c.gateways_are_hosted.ensures.wider c.args.lobby.now c.requires (omega arith)

pub returns-in-None-clause-due : goal.returns-in-None-clause-due
returns-in-None-clause-due g c = refl

pub stop_all-requires : goal.stop_all-requires
stop_all-requires g c = c.requires

pub returns-then-desk-clause-served : goal.returns-then-desk-clause-served
returns-then-desk-clause-served g c = c.stop_all.ensures.served

pub returns-then-desk-clause-due : goal.returns-then-desk-clause-due
returns-then-desk-clause-due g c = c.stop_all.ensures.due

pub returns-then-is_asked-clause-let_go : goal.returns-then-is_asked-clause-let_go
returns-then-is_asked-clause-let_go g c = none_gone _ _ _

pub returns-then-table-most-clause-let_go : goal.returns-then-table-most-clause-let_go
returns-then-table-most-clause-let_go g c = none_gone _ _ _

pub returns-else-table-most-clause-let_go : goal.returns-else-table-most-clause-let_go
returns-else-table-most-clause-let_go g c = none_gone _ _ _

pub returns-in-None-clause-let_go : goal.returns-in-None-clause-let_go
returns-in-None-clause-let_go g c = none_gone _ _ _

pub returns-then-desk-clause-let_go : goal.returns-then-desk-clause-let_go
returns-then-desk-clause-let_go g c = c.stop_all.ensures.let_go
