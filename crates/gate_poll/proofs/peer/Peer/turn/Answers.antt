use Rattle.std.proofs.Common.{refl}
use Rattle.gate_poll.proofs.Hosts.{stepped_still}
use Rattle.gate_poll.proofs.peer.Peer.turn.Goals as goal

pub calls-init : goal.calls-init
calls-init g c = stepped_still c.gateways_are_hosted.ensures.none c.gateways_are_hosted.ensures.wider _ _ _ _ _ refl refl tt
