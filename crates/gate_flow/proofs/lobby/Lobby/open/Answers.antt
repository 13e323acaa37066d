use Rattle.std.proofs.Common.{◌+◌, [], ◌∷◌, subst}
use Rattle.std.specs.Prelude.{OnOk, unwrap_or}
use Rattle.std.specs.Option.{option_copied}
use Rattle.gate_core.specs.Events.{Open}
use Rattle.gate_core.specs.ConnectionState.{State}
use Rattle.gate_flow.specs.Led.{IsLedAsWritten}
use Rattle.gate_flow.specs.Hosted.{IsHostedWith}
use Rattle.gate_flow.proofs.Hosting.{hosted_opened}
use Rattle.gate_flow.proofs.lobby.Lobby.open.Goals as goal

pub returns-clause-as_written : goal.returns-clause-as_written
returns-clause-as_written g c =
    subst (λ (x : State). OnOk c.open.result (IsLedAsWritten (Open c.args.id (unwrap_or (option_copied c.args.secret) x.settings.secret) ∷ []) x c.open.new.gateway)) c.self.view_is c.open.ensures.as_written

pub returns-clause-hosted : goal.returns-clause-hosted
returns-clause-hosted g c =
    subst (λ (x : State). OnOk c.open.result (IsHostedWith c.args.id (c.args.id + 1) ((c.args.id, unwrap_or (option_copied c.args.secret) x.settings.secret) ∷ []) x c.open.new.gateway)) c.self.view_is
    (hosted_opened c.args.id (unwrap_or (option_copied c.args.secret) c.self.inside.gateway.settings.secret) c.self.inside.gateway c.open.new.gateway c.open.result c.open.ensures.led)
