use Rattle.std.proofs.Common.{ℕ, List, ◌≡◌, inl, sym, subst, rules}
use Rattle.gate_turns.specs.Turns.{seat_at}
use Rattle.gate_poll.specs.declared.peer.Peer.{Peer}
use Rattle.gate_poll.specs.Table.{peer_in, AreLetGo}
use Rattle.gate_poll.proofs.Hosts.{still, and_then, of_own}
use Rattle.gate_poll.proofs.Keeping.{own_peer}
use Rattle.gate_poll.proofs.LettingGo.{none_gone, one_gone, gone_then}
use Rattle.gate_poll.proofs.table.Table.give_up_all.Goals as goal

pub all-init : goal.all-init
all-init g c = (
  λ id. own_peer c.args.self.now.ids.next id (peer_in c.args.self.now.peers.entries id) (seat_at c.args.self.now.turns id) (c.requires.each id),
  still c.gateways_are_hosted.ensures.none c.gateways_are_hosted.ensures.wider 1 c.args.self.now.ids.next c.args.lobby.now c.requires.first,
  none_gone _ _ _,
)

pub all-preserved : goal.all-preserved
all-preserved g c =
    let next = c.args.self.now.ids.next in
    let own = c.in-Some.ensures.own next c.all.invariant.0 in (
      c.take_first.ensures.kept next c.all.invariant.0,
      and_then c.gateways_are_hosted.ensures.joined 1 next c.args.lobby.now c.all.lobby c.give_up.new.lobby c.all.invariant.1 (of_own c.gateways_are_hosted.ensures.wider next c.in-Some.flow.id c.all.lobby c.give_up.new.lobby own c.give_up.ensures.hosted),
      gone_then _ _ _ c.args.self.now.peers.entries c.all.self.peers.entries c.take_first.new.peers.entries c.args.lobby.now c.all.lobby c.give_up.new.lobby c.all.invariant.2
          (one_gone _ _ c.in-Some.flow.id c.all.self.peers.entries c.take_first.new.peers.entries c.all.lobby c.give_up.new.lobby c.give_up.ensures.still (c.in-Some.ensures.others next c.all.invariant.0) c.give_up.ensures.hosted
          (λ none. inl (c.give_up.ensures.forgot, c.give_up.ensures.let_go))),
    )

pub returns-clause-let_go : goal.returns-clause-let_go
returns-clause-let_go g c =
    let same : c.take_first.new.peers.entries ≡ c.all.self.peers.entries = search rules in
    subst (λ (ps : List (ℕ × Peer)). AreLetGo (g.F.Forget.forgot c.args.forgets.now) (g.F.Forget.forgot c.all.forgets) c.args.self.now.peers.entries ps c.args.lobby.now c.all.lobby) (sym same) c.all.invariant.2
