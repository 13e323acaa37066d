use Rattle.std.proofs.Common.{◌∙◌, refl, arith}
use Rattle.gate_poll.proofs.Hosts.{serves_still}
use Rattle.gate_poll.proofs.LettingGo.{none_gone, gone_then}
use Rattle.gate_poll.proofs.table.Table.stop_all.Goals as goal

pub loop-id-init : goal.loop-id-init
loop-id-init g c = (serves_still c.args.self.now.ids.next c.args.self.now.ids.next c.args.self.now.peers.entries c.args.self.now.turns c.gateways_are_hosted.ensures.none c.gateways_are_hosted.ensures.wider c.args.lobby.now c.requires (omega arith), none_gone _ _ _, refl)

pub loop-id-preserved : goal.loop-id-preserved
loop-id-preserved g c = (
  record {
    kept = c.stop_one.ensures.served.kept;
    next_is = omega (arith, c.loop-id.invariant.0.next_is, c.stop_one.ensures.served.next_is);
    hosted = c.gateways_are_hosted.ensures.joined 1 c.loop-id.self.ids.next c.stop_one.new.self.ids.next c.args.lobby.now c.loop-id.lobby c.stop_one.new.lobby c.stop_one.ensures.served.next_is c.loop-id.invariant.0.hosted c.stop_one.ensures.served.hosted;
  },
  gone_then _ _ _ c.args.self.now.peers.entries c.loop-id.self.peers.entries c.stop_one.new.self.peers.entries c.args.lobby.now c.loop-id.lobby c.stop_one.new.lobby c.loop-id.invariant.1 c.stop_one.ensures.let_go,
  c.stop_one.ensures.due ∙ c.loop-id.invariant.2,
)
