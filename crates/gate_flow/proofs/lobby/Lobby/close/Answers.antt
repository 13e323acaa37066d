use Rattle.std.proofs.Common.{◌+◌, subst}
use Rattle.gate_core.specs.ConnectionState.{State}
use Rattle.gate_flow.specs.Hosted.{IsHosted}
use Rattle.gate_flow.proofs.Hosting.{hosted_moves}
use Rattle.gate_flow.proofs.lobby.Lobby.close.Goals as goal

pub returns-clause-hosted : goal.returns-clause-hosted
returns-clause-hosted g c =
    subst (λ (x : State). IsHosted c.args.flow.id (c.args.flow.id + 1) x c.close.new.gateway) c.self.view_is
    (hosted_moves c.args.flow.id c.close.ensures.given_up.calls c.self.inside.gateway c.close.new.gateway c.close.ensures.given_up.own c.close.ensures.given_up.led)
