use Rattle.std.proofs.Common.{◌∙◌, refl, arith}
use Rattle.gate_poll.proofs.Hosts.{serves_still}
use Rattle.gate_poll.proofs.LettingGo.{none_gone, gone_then}
use Rattle.gate_poll.proofs.table.Table.sweep.Goals as goal

pub late-init : goal.late-init
late-init g c = (serves_still c.args.self.now.ids.next c.args.self.now.ids.next c.args.self.now.peers.entries c.args.self.now.turns c.gateways_are_hosted.ensures.none c.gateways_are_hosted.ensures.wider c.args.lobby.now c.requires (omega arith), none_gone _ _ _, refl)

pub late-preserved : goal.late-preserved
late-preserved g c = (
  record {
    kept = c.cut_late.ensures.served.kept;
    next_is = omega (arith, c.late.invariant.0.next_is, c.cut_late.ensures.served.next_is);
    hosted = c.gateways_are_hosted.ensures.joined 1 c.late.self.ids.next c.cut_late.new.self.ids.next c.args.lobby.now c.late.lobby c.cut_late.new.lobby c.cut_late.ensures.served.next_is c.late.invariant.0.hosted c.cut_late.ensures.served.hosted;
  },
  gone_then _ _ _ c.args.self.now.peers.entries c.late.self.peers.entries c.cut_late.new.self.peers.entries c.args.lobby.now c.late.lobby c.cut_late.new.lobby c.late.invariant.1 c.cut_late.ensures.let_go,
  c.cut_late.ensures.due ∙ c.late.invariant.2,
)
