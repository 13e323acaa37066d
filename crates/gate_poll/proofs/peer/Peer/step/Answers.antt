use Rattle.std.proofs.Common.{refl, ap}
use Rattle.gate_flow.specs.State.{FlowState}
use Rattle.gate_poll.proofs.Hosts.{stepped_still, going_so}
use Rattle.gate_poll.proofs.peer.Peer.step.Goals as goal

pub returns-in-Nothing : goal.returns-in-Nothing
returns-in-Nothing g c = stepped_still c.gateways_are_hosted.ensures.none c.gateways_are_hosted.ensures.wider _ _ _ _ _ refl (ap (λ (f : FlowState). f.id) c.close.ensures.flow) (going_so c.ends.result.end c.close.result c.close.new.self c.ends.ensures c.close.ensures.goes)
