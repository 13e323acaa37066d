use Rattle.std.proofs.Common.{◌≡◌, arith, rules}
use Rattle.gate_turns.specs.Lanes.{lanes_at_round}
use Rattle.gate_poll.proofs.Hosts.{serves_still}
use Rattle.gate_poll.proofs.LettingGo.{none_gone, gone_then}
use Rattle.gate_poll.proofs.Keeping.{kept_lanes, kept_is, turn_begun, due_less}
use Rattle.gate_poll.proofs.table.Table.round.Goals as goal

pub turns-init : goal.turns-init
turns-init g c = (
  serves_still c.args.self.now.ids.next c.args.self.now.ids.next c.args.self.now.peers.entries c.begin_round.new.self c.gateways_are_hosted.ensures.none c.gateways_are_hosted.ensures.wider c.args.lobby.now
      (kept_lanes c.args.self.now.ids.next c.args.self.now.peers.entries c.args.self.now.turns c.begin_round.new.self (lanes_at_round c.args.self.now.turns.lanes) c.begin_round.ensures c.requires.kept) (omega arith),
  none_gone _ _ _,
)

pub next-requires : goal.next-requires
next-requires g c = record { idle = c.turns.invariant.0.kept.idle }

pub turn-requires : goal.turn-requires
turn-requires g c =
    turn_begun c.turns.self.ids.next c.in-Some.chosen.id c.turns.self.peers.entries c.turns.self.turns c.next.new.self c.turns.invariant.0.kept c.in-Some.ensures.turn c.in-Some.ensures.others

pub turns-smaller : goal.turns-smaller
turns-smaller g c = omega (arith, due_less c.in-Some.chosen.lane c.in-Some.chosen.id c.turns.self.turns.lanes c.next.new.self.lanes c.in-Some.ensures.some, c.turn.ensures.due)

pub turns-preserved : goal.turns-preserved
turns-preserved g c = (
  record {
    kept = c.turn.ensures.served.kept;
    next_is = omega (arith, c.turns.invariant.0.next_is, c.turn.ensures.served.next_is);
    hosted = c.gateways_are_hosted.ensures.joined 1 c.turns.self.ids.next c.turn.new.self.ids.next c.args.lobby.now c.turns.lobby c.turn.new.lobby c.turn.ensures.served.next_is c.turns.invariant.0.hosted c.turn.ensures.served.hosted;
  },
  gone_then _ _ _ c.args.self.now.peers.entries c.turns.self.peers.entries c.turn.new.self.peers.entries c.args.lobby.now c.turns.lobby c.turn.new.lobby c.turns.invariant.1 c.turn.ensures.let_go,
)

pub returns-clause-served : goal.returns-clause-served
returns-clause-served g c =
    let same : c.next.new.self ≡ c.turns.self.turns = search rules in
    record {
      kept = kept_is c.turns.self.ids.next c.turns.self.peers.entries c.turns.self.turns c.next.new.self same c.turns.invariant.0.kept;
      next_is = c.turns.invariant.0.next_is;
      hosted = c.turns.invariant.0.hosted;
    }

pub returns-clause-let_go : goal.returns-clause-let_go
returns-clause-let_go g c = c.turns.invariant.1
