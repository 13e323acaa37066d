use Rattle.std.proofs.Common.{refl, inr, inl}
use Rattle.gate_poll.proofs.Hosts.{stepped_still, on_end}
use Rattle.gate_poll.proofs.peer.Peer.begins.Goals as goal

pub returns-then-waits-clause-stepped : goal.returns-then-waits-clause-stepped
returns-then-waits-clause-stepped g c = stepped_still c.gateways_are_hosted.ensures.none c.gateways_are_hosted.ensures.wider _ _ _ _ _ c.let_go_of.ensures refl (on_end _ _ _ c.ends.ensures (inr (inl c.requires)))
