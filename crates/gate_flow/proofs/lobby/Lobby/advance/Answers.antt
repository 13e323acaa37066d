use Rattle.std.proofs.Common.{◌+◌, subst}
use Rattle.gate_core.specs.ConnectionState.{State}
use Rattle.gate_flow.specs.Hosted.{IsHosted}
use Rattle.gate_flow.proofs.Hosting.{hosted_advanced}
use Rattle.gate_flow.proofs.lobby.Lobby.advance.Goals as goal

pub returns-clause-hosted : goal.returns-clause-hosted
returns-clause-hosted g c =
    subst (λ (x : State). IsHosted c.args.flow.now.id (c.args.flow.now.id + 1) x c.advance.new.gateway) c.self.view_is
    (hosted_advanced c.args.flow.now c.advance.new.self c.self.inside.gateway c.advance.new.gateway c.advance.result c.advance.ensures.ok c.advance.ensures.err)
