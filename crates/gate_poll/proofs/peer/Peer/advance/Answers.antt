use Rattle.std.proofs.Common.{refl}
use Rattle.gate_poll.proofs.Hosts.{stepped_still, on_end}
use Rattle.gate_poll.proofs.peer.Peer.advance.Goals as goal

pub returns-then-ne : goal.returns-then-ne
returns-then-ne g c = stepped_still c.gateways_are_hosted.ensures.none c.gateways_are_hosted.ensures.wider _ _ _ _ _ refl refl (on_end _ _ _ c.goes_on.ensures tt)
