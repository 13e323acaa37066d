use Rattle.std.proofs.Common.{arith}
use Rattle.gate_poll.specs.Table.{peer_in}
use Rattle.gate_poll.proofs.Keeping.{kept_without}
use Rattle.gate_poll.proofs.LettingGo.{one_gone, out_id, out_hosted, out_gone}
use Rattle.gate_poll.proofs.table.Table.remove.Goals as goal

pub give_up_some-requires : goal.give_up_some-requires
give_up_some-requires g c = out_id c.args.self.now.ids.next c.args.id (peer_in c.args.self.now.peers.entries c.args.id) c.take_out-flow.result c.take_out-flow.ensures.found c.requires.own

pub returns-clause-served : goal.returns-clause-served
returns-clause-served g c = record {
  kept = kept_without c.args.self.now.ids.next c.args.id c.args.self.now.peers.entries c.take_out-flow.new.peers.entries c.args.self.now.turns c.requires c.take_out-flow.ensures.others c.take_out-flow.ensures.gone;
  next_is = omega arith;
  hosted = out_hosted c.gateways_are_hosted.ensures.none c.gateways_are_hosted.ensures.wider c.args.self.now.ids.next c.args.id (peer_in c.args.self.now.peers.entries c.args.id) c.take_out-flow.result c.args.lobby.now c.give_up_some.new.lobby
      c.take_out-flow.ensures.found c.requires.own c.requires.first c.give_up_some.ensures.hosted c.give_up_some.ensures.none;
}

pub returns-clause-let_go : goal.returns-clause-let_go
returns-clause-let_go g c =
    one_gone _ _ c.args.id c.args.self.now.peers.entries c.take_out-flow.new.peers.entries c.args.lobby.now c.give_up_some.new.lobby c.give_up_some.ensures.still c.take_out-flow.ensures.others c.give_up_some.ensures.hosted
    (λ none. out_gone _ c.args.id (peer_in c.args.self.now.peers.entries c.args.id) c.take_out-flow.result c.args.lobby.now c.give_up_some.new.lobby c.take_out-flow.ensures.found c.give_up_some.ensures.let_go c.give_up_some.ensures.none)
