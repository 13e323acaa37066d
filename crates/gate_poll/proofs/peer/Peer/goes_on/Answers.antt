use Rattle.std.proofs.Common.{refl, ap}
use Rattle.gate_flow.specs.State.{FlowState}
use Rattle.gate_poll.proofs.Hosts.{stepped_still}
use Rattle.gate_poll.proofs.peer.Peer.goes_on.Goals as goal

pub returns-then-self-clause-stepped : goal.returns-then-self-clause-stepped
returns-then-self-clause-stepped g c = stepped_still c.gateways_are_hosted.ensures.none c.gateways_are_hosted.ensures.wider _ _ _ _ _ refl (ap (λ (f : FlowState). f.id) c.drain-outcome.ensures.flow) c.drain-outcome.ensures.waits
