use Rattle.std.proofs.Common.{◌≡◌, ◌∙◌, refl, sym, ap, subst, arith, None, ℕ, ◌+◌, rules, inl}
use Rattle.gate_flow.specs.State.{FlowState}
use Rattle.gate_flow.specs.Hosted.{IsHosted, IsOwnId}
use Rattle.gate_turns.specs.Lanes.{turns_due}
use Rattle.gate_turns.specs.Turns.{TurnsState, seat_at}
use Rattle.gate_turns.specs.declared.seat.Place.TheVariants.{Queued}
use Rattle.gate_turns.specs.declared.seat.Lane.TheVariants.{Fresh}
use Rattle.gate_core.specs.ConnectionState.{State, connection_at}
use Rattle.gate_poll.specs.Table.{peer_in, IsLetGo, ArePeersServed}
use Rattle.gate_poll.proofs.Hosts.{serves_still, of_own}
use Rattle.gate_poll.proofs.Listening.{serves_none, under_none, under_one, under_then}
use Rattle.gate_poll.proofs.Keeping.{kept_more, kept_with, ids_rise, given_own, ungiven, new_owes, seat_new, neither, due_after}
use Rattle.gate_poll.proofs.LettingGo.{none_gone, none_gone_so, one_gone_by, one_kept_by}
use Rattle.gate_poll.proofs.table.Table.take_in.Goals as goal

pub returns-in_default-clause-served : goal.returns-in_default-clause-served
returns-in_default-clause-served g c = serves_none _ c.args.self.now.ids.next c.take.new.self.next c.args.self.now.peers.entries c.args.self.now.turns c.args.lobby.now c.args.lobby.now
    (serves_still c.args.self.now.ids.next c.take.new.self.next c.args.self.now.peers.entries c.args.self.now.turns c.gateways_are_hosted.ensures.none c.gateways_are_hosted.ensures.wider c.args.lobby.now (kept_more c.args.self.now.ids.next c.take.new.self.next c.args.self.now.peers.entries c.args.self.now.turns (ids_rise c.take.result c.args.self.now.ids c.take.new.self c.take.ensures.given c.take.ensures.rises c.take.ensures.none) c.requires) (ids_rise c.take.result c.args.self.now.ids c.take.new.self c.take.ensures.given c.take.ensures.rises c.take.ensures.none))

pub returns-then-not-register-clause-served : goal.returns-then-not-register-clause-served
returns-then-not-register-clause-served g c = serves_none _ c.args.self.now.ids.next c.take.new.self.next c.args.self.now.peers.entries c.args.self.now.turns c.args.lobby.now c.args.lobby.now
    (serves_still c.args.self.now.ids.next c.take.new.self.next c.args.self.now.peers.entries c.args.self.now.turns c.gateways_are_hosted.ensures.none c.gateways_are_hosted.ensures.wider c.args.lobby.now (kept_more c.args.self.now.ids.next c.take.new.self.next c.args.self.now.peers.entries c.args.self.now.turns (ids_rise c.take.result c.args.self.now.ids c.take.new.self c.take.ensures.given c.take.ensures.rises c.take.ensures.none) c.requires) (ids_rise c.take.result c.args.self.now.ids c.take.new.self c.take.ensures.given c.take.ensures.rises c.take.ensures.none))

pub returns-in_default-open-clause-served : goal.returns-in_default-open-clause-served
returns-in_default-open-clause-served g c =
    let same : c.open.new.self ≡ c.args.lobby.now = search rules in
    serves_none _ c.args.self.now.ids.next c.take.new.self.next c.args.self.now.peers.entries c.args.self.now.turns c.args.lobby.now c.open.new.self
    (subst (λ (x : State). ArePeersServed c.args.self.now.ids.next c.take.new.self.next c.args.self.now.peers.entries c.args.self.now.turns c.args.lobby.now x) (sym same)
    (serves_still c.args.self.now.ids.next c.take.new.self.next c.args.self.now.peers.entries c.args.self.now.turns c.gateways_are_hosted.ensures.none c.gateways_are_hosted.ensures.wider c.args.lobby.now (kept_more c.args.self.now.ids.next c.take.new.self.next c.args.self.now.peers.entries c.args.self.now.turns (ids_rise c.take.result c.args.self.now.ids c.take.new.self c.take.ensures.given c.take.ensures.rises c.take.ensures.none) c.requires) (ids_rise c.take.result c.args.self.now.ids c.take.new.self c.take.ensures.given c.take.ensures.rises c.take.ensures.none)))

pub add-requires-clause-fresh : goal.add-requires-clause-fresh
add-requires-clause-fresh g c = (ungiven c.args.self.now.ids.next c.in-Some.id (peer_in c.args.self.now.peers.entries c.in-Some.id) (seat_at c.args.self.now.turns c.in-Some.id) (c.requires.each c.in-Some.id) (omega (arith, c.in-Some.ensures.given))).0

pub add-requires-clause-seat : goal.add-requires-clause-seat
add-requires-clause-seat g c = (ungiven c.args.self.now.ids.next c.in-Some.id (peer_in c.args.self.now.peers.entries c.in-Some.id) (seat_at c.args.self.now.turns c.in-Some.id) (c.requires.each c.in-Some.id) (omega (arith, c.in-Some.ensures.given))).1

pub add-requires-clause-idle : goal.add-requires-clause-idle
add-requires-clause-idle g c = c.requires.idle

pub add-requires-clause-owed : goal.add-requires-clause-owed
add-requires-clause-owed g c = new_owes c.new-peer.result c.in-Ok.flow c.in-Some.id c.new-peer.ensures.flow c.in-Ok.ensures.opened c.new-peer.ensures.lingers

pub returns-in-None-clause-served : goal.returns-in-None-clause-served
returns-in-None-clause-served g c =
    let own : IsOwnId 1 c.take.new.self.next c.in-Some.id = given_own c.args.self.now.ids.next c.take.new.self.next c.in-Some.id c.requires.first c.in-Some.ensures.given c.in-Some.ensures.rises in
    record {
      kept = kept_with c.take.new.self.next c.in-Some.id c.args.self.now.peers.entries c.add.new.peers.entries c.args.self.now.turns c.add.new.turns (kept_more c.args.self.now.ids.next c.take.new.self.next c.args.self.now.peers.entries c.args.self.now.turns (ids_rise c.take.result c.args.self.now.ids c.take.new.self c.take.ensures.given c.take.ensures.rises c.take.ensures.none) c.requires) c.add.ensures.others c.add.ensures.seats
          (seat_new c.take.new.self.next c.in-Some.id c.args.from.number (peer_in c.add.new.peers.entries c.in-Some.id) (seat_at c.add.new.turns c.in-Some.id) c.new-peer.result c.in-Ok.flow c.in-None.ensures.added.1 c.in-None.ensures.added.0.seat own c.new-peer.ensures.flow c.in-Ok.ensures.opened c.new-peer.ensures.lingers)
          c.add.ensures.turn;
      next_is = (ids_rise c.take.result c.args.self.now.ids c.take.new.self c.take.ensures.given c.take.ensures.rises c.take.ensures.none);
      hosted = under_one _ c.gateways_are_hosted.ensures.opened_wider c.take.new.self.next c.in-Some.id _ c.args.lobby.now c.open.new.self own (c.in-Some.ensures.given, refl) c.in-Ok.ensures.hosted;
    }

pub returns-in-None-clause-due : goal.returns-in-None-clause-due
returns-in-None-clause-due g c = ap turns_due c.in-None.ensures.added.0.lanes ∙ due_after (Queued Fresh) c.in-Some.id c.args.self.now.turns.lanes

pub returns-in-Some-add-clause-served : goal.returns-in-Some-add-clause-served
returns-in-Some-add-clause-served g c =
    let own : IsOwnId 1 c.take.new.self.next c.in-Some.id = given_own c.args.self.now.ids.next c.take.new.self.next c.in-Some.id c.requires.first c.in-Some.ensures.given c.in-Some.ensures.rises in
    let gone : seat_at c.add.new.turns c.in-Some.id ≡ None = ap (λ (x : TurnsState). seat_at x c.in-Some.id) c.in-Some-add.ensures.refused.1
    ∙ (ungiven c.args.self.now.ids.next c.in-Some.id (peer_in c.args.self.now.peers.entries c.in-Some.id) (seat_at c.args.self.now.turns c.in-Some.id) (c.requires.each c.in-Some.id) (omega (arith, c.in-Some.ensures.given))).1 in
    let mine : c.in-Some-add.flow.id ≡ c.in-Some.id = ap (λ (f : FlowState). f.id) (c.in-Some-add.ensures.refused.0 ∙ c.new-peer.ensures.flow ∙ c.in-Ok.ensures.opened) in
    record {
      kept = kept_with c.take.new.self.next c.in-Some.id c.args.self.now.peers.entries c.add.new.peers.entries c.args.self.now.turns c.add.new.turns (kept_more c.args.self.now.ids.next c.take.new.self.next c.args.self.now.peers.entries c.args.self.now.turns (ids_rise c.take.result c.args.self.now.ids c.take.new.self c.take.ensures.given c.take.ensures.rises c.take.ensures.none) c.requires) c.add.ensures.others c.add.ensures.seats
          (neither c.take.new.self.next c.in-Some.id (peer_in c.add.new.peers.entries c.in-Some.id) (seat_at c.add.new.turns c.in-Some.id) c.in-Some-add.ensures.refused.2 gone)
          c.add.ensures.turn;
      next_is = (ids_rise c.take.result c.args.self.now.ids c.take.new.self c.take.ensures.given c.take.ensures.rises c.take.ensures.none);
      hosted = under_then _ c.gateways_are_hosted.ensures.opened_then 1 c.take.new.self.next c.take.new.self.next c.args.lobby.now c.open.new.self c.give_up.new.lobby (omega arith)
          (under_one _ c.gateways_are_hosted.ensures.opened_wider c.take.new.self.next c.in-Some.id _ c.args.lobby.now c.open.new.self own (c.in-Some.ensures.given, refl) c.in-Ok.ensures.hosted)
          (under_none _ 1 c.take.new.self.next c.open.new.self c.give_up.new.lobby
          (of_own c.gateways_are_hosted.ensures.wider c.take.new.self.next c.in-Some.id c.open.new.self c.give_up.new.lobby own (subst (λ (i : ℕ). IsHosted i (i + 1) c.open.new.self c.give_up.new.lobby) mine c.give_up.ensures.hosted)));
    }

pub returns-in-Some-add-clause-due : goal.returns-in-Some-add-clause-due
returns-in-Some-add-clause-due g c = ap (λ (x : TurnsState). turns_due x.lanes) c.in-Some-add.ensures.refused.1

pub returns-in_default-clause-let_go : goal.returns-in_default-clause-let_go
returns-in_default-clause-let_go g c = none_gone _ _ _

pub returns-then-not-register-clause-let_go : goal.returns-then-not-register-clause-let_go
returns-then-not-register-clause-let_go g c = none_gone _ _ _

pub returns-in_default-open-clause-let_go : goal.returns-in_default-open-clause-let_go
returns-in_default-open-clause-let_go g c =
    let same : c.open.new.self ≡ c.args.lobby.now = search rules in
    none_gone_so _ c.args.self.now.peers.entries c.args.lobby.now c.open.new.self same

pub returns-in-None-clause-let_go : goal.returns-in-None-clause-let_go
returns-in-None-clause-let_go g c =
    one_kept_by _ _ c.in-Some.id c.args.self.now.peers.entries c.add.new.peers.entries c.new-peer.result c.args.lobby.now c.open.new.self (λ other is. is) c.add.ensures.others c.in-Ok.ensures.hosted.others c.in-None.ensures.added.1

pub returns-in-Some-add-clause-let_go : goal.returns-in-Some-add-clause-let_go
returns-in-Some-add-clause-let_go g c =
    let mine : c.in-Some-add.flow.id ≡ c.in-Some.id = ap (λ (f : FlowState). f.id) (c.in-Some-add.ensures.refused.0 ∙ c.new-peer.ensures.flow ∙ c.in-Ok.ensures.opened) in
    let gone : IsHosted c.in-Some.id (c.in-Some.id + 1) c.open.new.self c.give_up.new.lobby = subst (λ (i : ℕ). IsHosted i (i + 1) c.open.new.self c.give_up.new.lobby) mine c.give_up.ensures.hosted in
    one_gone_by _ _ c.in-Some.id c.args.self.now.peers.entries c.add.new.peers.entries c.args.lobby.now c.give_up.new.lobby c.give_up.ensures.still c.add.ensures.others
    (λ other apart. gone.others other apart ∙ c.in-Ok.ensures.hosted.others other apart)
    (λ none. inl (subst (λ (i : ℕ). g.F.Forget.forgot c.give_up.new.forgets i × IsLetGo i (connection_at c.give_up.new.lobby i)) mine (c.give_up.ensures.forgot, c.give_up.ensures.let_go)))
