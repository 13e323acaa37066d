use Rattle.std.proofs.Common.{◌∙◌, refl, arith}
use Rattle.gate_poll.proofs.Hosts.{serves_still}
use Rattle.gate_poll.proofs.LettingGo.{none_gone, gone_then}
use Rattle.gate_poll.proofs.Listening.{serves_none, under_then, under_so, some_so}
use Rattle.gate_poll.proofs.serving.EventLoop.accept_some.Goals as goal

pub returns-in_default-clause-served : goal.returns-in_default-clause-served
returns-in_default-clause-served g c = serves_none _ c.args.table.now.ids.next c.args.table.now.ids.next c.args.table.now.peers.entries c.args.table.now.turns c.args.lobby.now c.args.lobby.now (serves_still c.args.table.now.ids.next c.args.table.now.ids.next c.args.table.now.peers.entries c.args.table.now.turns c.gateways_are_hosted.ensures.none c.gateways_are_hosted.ensures.wider c.args.lobby.now c.requires (omega arith))

pub returns-in_default-clause-due : goal.returns-in_default-clause-due
returns-in_default-clause-due g c = refl

pub attempts-init : goal.attempts-init
attempts-init g c = (serves_none _ c.args.table.now.ids.next c.args.table.now.ids.next c.args.table.now.peers.entries c.args.table.now.turns c.args.lobby.now c.args.lobby.now (serves_still c.args.table.now.ids.next c.args.table.now.ids.next c.args.table.now.peers.entries c.args.table.now.turns c.gateways_are_hosted.ensures.none c.gateways_are_hosted.ensures.wider c.args.lobby.now c.requires (omega arith)), none_gone _ _ _, refl)

pub accept_one-requires : goal.accept_one-requires
accept_one-requires g c = c.attempts.invariant.0.kept

pub returns-then-not-accept_one-clause-served : goal.returns-then-not-accept_one-clause-served
returns-then-not-accept_one-clause-served g c = record {
  kept = c.accept_one.ensures.served.kept;
  next_is = omega (arith, c.attempts.invariant.0.next_is, c.accept_one.ensures.served.next_is);
  hosted = under_then _ c.gateways_are_hosted.ensures.opened_then 1 c.attempts.table.ids.next c.accept_one.new.table.ids.next c.args.lobby.now c.attempts.lobby c.accept_one.new.lobby c.accept_one.ensures.served.next_is c.attempts.invariant.0.hosted
      (under_so _ _ (some_so g.A.Arrivals.came g.A.Arrivals.secret_at c.args.arrivals.now c.in-Some.arrivals c.args.lobby.now c.attempts.lobby c.in-Some.is c.attempts.invariant.0.hosted.hosted.settings)
      1 c.accept_one.new.table.ids.next c.attempts.lobby c.accept_one.new.lobby c.accept_one.ensures.served.hosted);
}

pub returns-then-not-accept_one-clause-due : goal.returns-then-not-accept_one-clause-due
returns-then-not-accept_one-clause-due g c = c.accept_one.ensures.due ∙ c.attempts.invariant.2

pub attempts-preserved : goal.attempts-preserved
attempts-preserved g c = (
  record {
    kept = c.accept_one.ensures.served.kept;
    next_is = omega (arith, c.attempts.invariant.0.next_is, c.accept_one.ensures.served.next_is);
    hosted = under_then _ c.gateways_are_hosted.ensures.opened_then 1 c.attempts.table.ids.next c.accept_one.new.table.ids.next c.args.lobby.now c.attempts.lobby c.accept_one.new.lobby c.accept_one.ensures.served.next_is c.attempts.invariant.0.hosted
        (under_so _ _ (some_so g.A.Arrivals.came g.A.Arrivals.secret_at c.args.arrivals.now c.in-Some.arrivals c.args.lobby.now c.attempts.lobby c.in-Some.is c.attempts.invariant.0.hosted.hosted.settings)
        1 c.accept_one.new.table.ids.next c.attempts.lobby c.accept_one.new.lobby c.accept_one.ensures.served.hosted);
  },
  gone_then _ _ _ c.args.table.now.peers.entries c.attempts.table.peers.entries c.accept_one.new.table.peers.entries c.args.lobby.now c.attempts.lobby c.accept_one.new.lobby c.attempts.invariant.1 c.accept_one.ensures.let_go,
  c.accept_one.ensures.due ∙ c.attempts.invariant.2,
)

pub returns-clause-served : goal.returns-clause-served
returns-clause-served g c = c.attempts.invariant.0

pub returns-clause-due : goal.returns-clause-due
returns-clause-due g c = c.attempts.invariant.2

pub returns-in_default-clause-let_go : goal.returns-in_default-clause-let_go
returns-in_default-clause-let_go g c = none_gone _ _ _

pub returns-then-not-accept_one-clause-let_go : goal.returns-then-not-accept_one-clause-let_go
returns-then-not-accept_one-clause-let_go g c = gone_then _ _ _ c.args.table.now.peers.entries c.attempts.table.peers.entries c.accept_one.new.table.peers.entries c.args.lobby.now c.attempts.lobby c.accept_one.new.lobby c.attempts.invariant.1 c.accept_one.ensures.let_go

pub returns-clause-let_go : goal.returns-clause-let_go
returns-clause-let_go g c = c.attempts.invariant.1
