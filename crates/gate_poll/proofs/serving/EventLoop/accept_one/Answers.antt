use Rattle.std.proofs.Common.{ℕ, refl, sym, subst, arith}
use Rattle.gate_limits.specs.Arrivals.{IsSocket}
use Rattle.gate_poll.proofs.Hosts.{serves_still}
use Rattle.gate_poll.proofs.LettingGo.{none_gone}
use Rattle.gate_poll.proofs.Listening.{serves_none, serves_so, came_by}
use Rattle.gate_poll.proofs.serving.EventLoop.accept_one.Goals as goal

pub returns-in_default-clause-served : goal.returns-in_default-clause-served
returns-in_default-clause-served g c = serves_none _ c.args.table.now.ids.next c.args.table.now.ids.next c.args.table.now.peers.entries c.args.table.now.turns c.args.lobby.now c.args.lobby.now (serves_still c.args.table.now.ids.next c.args.table.now.ids.next c.args.table.now.peers.entries c.args.table.now.turns c.gateways_are_hosted.ensures.none c.gateways_are_hosted.ensures.wider c.args.lobby.now c.requires (omega arith))

pub returns-in_default-clause-due : goal.returns-in_default-clause-due
returns-in_default-clause-due g c = refl

pub returns-in_default-clause-let_go : goal.returns-in_default-clause-let_go
returns-in_default-clause-let_go g c = none_gone _ _ _

pub returns-in-Gone-clause-served : goal.returns-in-Gone-clause-served
returns-in-Gone-clause-served g c = serves_none _ c.args.table.now.ids.next c.args.table.now.ids.next c.args.table.now.peers.entries c.args.table.now.turns c.args.lobby.now c.args.lobby.now (serves_still c.args.table.now.ids.next c.args.table.now.ids.next c.args.table.now.peers.entries c.args.table.now.turns c.gateways_are_hosted.ensures.none c.gateways_are_hosted.ensures.wider c.args.lobby.now c.requires (omega arith))

pub returns-in-Gone-clause-due : goal.returns-in-Gone-clause-due
returns-in-Gone-clause-due g c = refl

pub returns-in-Gone-clause-let_go : goal.returns-in-Gone-clause-let_go
returns-in-Gone-clause-let_go g c = none_gone _ _ _

pub returns-in-Starved-clause-served : goal.returns-in-Starved-clause-served
returns-in-Starved-clause-served g c = serves_none _ c.args.table.now.ids.next c.args.table.now.ids.next c.args.table.now.peers.entries c.args.table.now.turns c.args.lobby.now c.args.lobby.now (serves_still c.args.table.now.ids.next c.args.table.now.ids.next c.args.table.now.peers.entries c.args.table.now.turns c.gateways_are_hosted.ensures.none c.gateways_are_hosted.ensures.wider c.args.lobby.now c.requires (omega arith))

pub returns-in-Starved-clause-due : goal.returns-in-Starved-clause-due
returns-in-Starved-clause-due g c = refl

pub returns-in-Starved-clause-let_go : goal.returns-in-Starved-clause-let_go
returns-in-Starved-clause-let_go g c = none_gone _ _ _

pub welcome-requires : goal.welcome-requires
welcome-requires g c = c.requires

pub returns-in-Socket-clause-served : goal.returns-in-Socket-clause-served
returns-in-Socket-clause-served g c =
    serves_so _ _ (came_by (g.A.Arrivals.came c.args.arrivals.now) (g.A.Arrivals.secret_at c.args.arrivals.now) c.args.lobby.now.settings.secret c.args.table.now.ids.next c.in-Some.place _
    (subst (λ (i : ℕ). g.A.Arrivals.came c.args.arrivals.now i c.in-Some.place) c.coming.ensures (c.accept-arrival.ensures (subst IsSocket (sym c.in-Socket.is) tt))) c.secret-secret.ensures)
    c.args.table.now.ids.next c.welcome.new.self.ids.next c.welcome.new.self.peers.entries c.welcome.new.self.turns c.args.lobby.now c.welcome.new.lobby c.welcome.ensures.served

pub returns-in-Socket-clause-due : goal.returns-in-Socket-clause-due
returns-in-Socket-clause-due g c = c.welcome.ensures.due

pub returns-in-Socket-clause-let_go : goal.returns-in-Socket-clause-let_go
returns-in-Socket-clause-let_go g c = c.welcome.ensures.let_go
