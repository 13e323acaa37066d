use Rattle.std.proofs.Common.{subst}
use Rattle.gate_core.specs.ConnectionState.{State}
use Rattle.gate_flow.specs.Hosted.{IsForgotten}
use Rattle.gate_flow.proofs.Forgotten.{forgotten_so}
use Rattle.gate_flow.proofs.Hosting.{hosted_forget}
use Rattle.gate_flow.proofs.lobby.Lobby.forget.Goals as goal

pub returns-clause-forgotten : goal.returns-clause-forgotten
returns-clause-forgotten g c =
    subst (λ (x : State). IsForgotten c.args.id x c.forget.new.self) c.self.view_is
    (forgotten_so c.faithful_goes_on.ensures.taken c.args.id c.self.inside.gateway c.forget.new.self c.forget.result _ c.forget.ensures.answer c.forget.ensures.left c.forget.ensures.err c.forget.ensures.others)

pub returns-clause-hosted : goal.returns-clause-hosted
returns-clause-hosted g c = hosted_forget c.args.id c.args.self.now c.forget.new.self (returns-clause-forgotten g c)
