use Rattle.std.proofs.Common.{[], subst}
use Rattle.gate_core.specs.ConnectionState.{State}
use Rattle.std.proofs.lemmas.List.Elements.{All-nil}
use Rattle.gate_flow.specs.Led.{IsLed, IsLedAsWritten, IsMove}
use Rattle.gate_flow.proofs.Leading.{led_by_none, written_by_none}
use Rattle.gate_flow.proofs.Hosting.{hosted_moves}
use Rattle.gate_flow.proofs.lobby.Lobby.prepare.Goals as goal

pub returns-clause-led : goal.returns-clause-led
returns-clause-led g c =
    subst (λ (x : State). IsLed c.args.flow.now.id [] x c.prepare.new.self) c.self.view_is
    (led_by_none c.args.flow.now.id c.self.inside.gateway c.prepare.new.self c.prepare.ensures.left c.prepare.ensures.leaves)

pub returns-clause-as_written : goal.returns-clause-as_written
returns-clause-as_written g c =
    subst (λ (x : State). IsLedAsWritten [] x c.prepare.new.self) c.self.view_is
    (written_by_none c.self.inside.gateway c.prepare.new.self c.prepare.ensures.came)

pub returns-clause-hosted : goal.returns-clause-hosted
returns-clause-hosted g c = hosted_moves c.args.flow.now.id [] c.args.self.now c.prepare.new.self (All-nil (IsMove c.args.flow.now.id)) (returns-clause-led g c)
