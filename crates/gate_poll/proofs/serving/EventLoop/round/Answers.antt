use Rattle.std.proofs.Common.{ap, arith, subst, sym, ℕ}
use Rattle.std.specs.BTreeMap.{BTreeMap}
use Rattle.gate_poll.specs.declared.peer.Peer.{Peer}
use Rattle.gate_poll.specs.Table.{AreLetGo}
use Rattle.gate_limits.specs.declared.ids.Ids.{Ids}
use Rattle.gate_poll.proofs.LettingGo.{gone_then}
use Rattle.gate_poll.proofs.Hosts.{serves_still}
use Rattle.gate_poll.proofs.Listening.{serves_none, under_none, under_then}
use Rattle.gate_poll.proofs.serving.EventLoop.round.Goals as goal

pub returns-clause-served : goal.returns-clause-served
returns-clause-served g c =
    let joined = c.gateways_are_hosted.ensures.joined in
    let marked = ap (λ (x : Ids). x.next) c.mark.ensures.ids in
    let some = c.accept_some.ensures.served in
    let turned = c.round.ensures.served in
    let swept = c.sweep.ensures.served in
    let over = c.is_over.ensures.served in
    record {
      kept = over.kept;
      next_is = omega (arith, marked, some.next_is, c.accept_control.ensures.next, turned.next_is, swept.next_is, over.next_is);
      hosted = under_then _ c.gateways_are_hosted.ensures.opened_then 1 c.accept_some.new.table.ids.next c.is_over.new.table.ids.next c.args.lobby.now c.accept_some.new.lobby c.is_over.new.lobby
          (omega (arith, c.accept_control.ensures.next, turned.next_is, swept.next_is, over.next_is))
          some.hosted
          (under_none _ 1 c.is_over.new.table.ids.next c.accept_some.new.lobby c.is_over.new.lobby
          (joined 1 c.sweep.new.table.ids.next c.is_over.new.table.ids.next c.accept_some.new.lobby c.sweep.new.lobby c.is_over.new.lobby over.next_is
          (joined 1 c.round.new.self.ids.next c.sweep.new.table.ids.next c.accept_some.new.lobby c.round.new.lobby c.sweep.new.lobby swept.next_is turned.hosted swept.hosted)
          over.hosted));
    }

pub returns-clause-let_go : goal.returns-clause-let_go
returns-clause-let_go g c =
    gone_then _ _ _ _ _ _ c.args.lobby.now c.sweep.new.lobby c.is_over.new.lobby
    (gone_then _ _ _ _ _ _ c.args.lobby.now c.round.new.lobby c.sweep.new.lobby
    (gone_then _ _ _ _ _ _ c.args.lobby.now c.accept_some.new.lobby c.round.new.lobby
    (subst (λ (t : BTreeMap ℕ Peer). AreLetGo (g.F.Forget.forgot c.args.forgets.now) (g.F.Forget.forgot c.accept_some.new.forgets) t.entries c.accept_control.new.table.peers.entries c.args.lobby.now c.accept_some.new.lobby) c.mark.ensures.peers
    (subst (λ (t : BTreeMap ℕ Peer). AreLetGo (g.F.Forget.forgot c.args.forgets.now) (g.F.Forget.forgot c.accept_some.new.forgets) c.mark.new.table.peers.entries t.entries c.args.lobby.now c.accept_some.new.lobby) (sym c.accept_control.ensures.peers) c.accept_some.ensures.let_go))
    c.round.ensures.let_go)
    c.sweep.ensures.let_go)
    c.is_over.ensures.let_go

pub returns-in_err-now-clause-served : goal.returns-in_err-now-clause-served
returns-in_err-now-clause-served g c = serves_none _ c.args.table.now.ids.next c.args.table.now.ids.next c.args.table.now.peers.entries c.args.table.now.turns c.args.lobby.now c.args.lobby.now (serves_still c.args.table.now.ids.next c.args.table.now.ids.next c.args.table.now.peers.entries c.args.table.now.turns c.gateways_are_hosted.ensures.none c.gateways_are_hosted.ensures.wider c.args.lobby.now c.requires.kept (omega arith))

pub returns-in_err-poll-clause-served : goal.returns-in_err-poll-clause-served
returns-in_err-poll-clause-served g c = serves_none _ c.args.table.now.ids.next c.args.table.now.ids.next c.args.table.now.peers.entries c.args.table.now.turns c.args.lobby.now c.args.lobby.now (serves_still c.args.table.now.ids.next c.args.table.now.ids.next c.args.table.now.peers.entries c.args.table.now.turns c.gateways_are_hosted.ensures.none c.gateways_are_hosted.ensures.wider c.args.lobby.now c.requires.kept (omega arith))

pub returns-in_err-now-2-clause-served : goal.returns-in_err-now-2-clause-served
returns-in_err-now-2-clause-served g c =
    let marked = ap (λ (x : Ids). x.next) c.mark.ensures.ids in
    serves_none _ c.args.table.now.ids.next c.mark.new.table.ids.next c.mark.new.table.peers.entries c.mark.new.table.turns c.args.lobby.now c.args.lobby.now (serves_still c.args.table.now.ids.next c.mark.new.table.ids.next c.mark.new.table.peers.entries c.mark.new.table.turns c.gateways_are_hosted.ensures.none c.gateways_are_hosted.ensures.wider c.args.lobby.now c.mark.ensures.kept (omega (arith, marked)))
