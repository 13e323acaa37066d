use Rattle.std.proofs.Common.{◌≡◌, ◌∙◌, refl, ap, inl}
use Rattle.gate_flow.specs.State.{FlowState}
use Rattle.gate_poll.proofs.Hosts.{stepped_still, on_end}
use Rattle.gate_poll.proofs.peer.Peer.read.Goals as goal

pub returns-then-not-readable : goal.returns-then-not-readable
returns-then-not-readable g c = stepped_still c.gateways_are_hosted.ensures.none c.gateways_are_hosted.ensures.wider _ _ _ _ _ refl refl (on_end _ _ _ c.ends.ensures (inl c.requires))

pub returns-in-Ok-Interrupted : goal.returns-in-Ok-Interrupted
returns-in-Ok-Interrupted g c = stepped_still c.gateways_are_hosted.ensures.none c.gateways_are_hosted.ensures.wider _ _ _ _ _ refl (c.read_from.ensures.read.id ∙ ap (λ (f : FlowState). f.id) c.resumes.ensures.flow) (on_end _ _ _ c.goes_on.ensures tt)

pub returns-in-Ok-Blocked : goal.returns-in-Ok-Blocked
returns-in-Ok-Blocked g c =
    let same : c.read_from.new.self ≡ c.args.self.now.flow = c.read_from.ensures.blocked (cc) ∙ c.resumes.ensures.flow in
    stepped_still c.gateways_are_hosted.ensures.none c.gateways_are_hosted.ensures.wider _ _ _ _ _ refl (c.read_from.ensures.read.id ∙ ap (λ (f : FlowState). f.id) c.resumes.ensures.flow) (on_end _ _ _ c.ends-in-Ok-Blocked.ensures (inl (ap (λ (f : FlowState). f.want) same ∙ c.requires)))

pub returns-in-Err : goal.returns-in-Err
returns-in-Err g c = stepped_still c.gateways_are_hosted.ensures.none c.gateways_are_hosted.ensures.wider _ _ _ _ _ refl (c.read_from.ensures.read.id ∙ ap (λ (f : FlowState). f.id) c.resumes.ensures.flow) (on_end _ _ _ c.fails.ensures tt)
