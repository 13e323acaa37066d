use Rattle.std.proofs.Common.{ap}
use Rattle.std.specs.Prelude.{unwrap_or, option_copied}
use Rattle.gate_core.specs.Events.{Open}
use Rattle.gate_core.specs.AfterCall.{opened}
use Rattle.gate_core.specs.ConnectionState.{is_closed_in, bytes_refusal}
use Rattle.gate_flow.proofs.Leading.{calm_on, opened_led, unopened, waiting_held, held_after}
use Rattle.gate_flow.proofs.calls.begin.Goals as goal

pub returns-in-Ok-clause-led : goal.returns-in-Ok-clause-led
returns-in-Ok-clause-led g c =
    opened_led c.faithful_goes_on.ensures.opened c.args.id (option_copied c.args.secret) c.args.gateway.now c.open.new.self (unopened _ _ _ _ (λ e h. cc) c.in-Ok.ensures.answer) c.in-Ok.ensures.left c.in-Ok.ensures.others

pub returns-in-Ok-clause-as_written : goal.returns-in-Ok-clause-as_written
returns-in-Ok-clause-as_written g c = calm_on c.args.gateway.now c.open.new.self (Open c.args.id (unwrap_or (option_copied c.args.secret) c.args.gateway.now.settings.secret)) c.in-Ok.ensures.came

pub returns-in-Ok-clause-nothing : goal.returns-in-Ok-clause-nothing
returns-in-Ok-clause-nothing g c = waiting_held c.args.gateway.now c.open.new.self c.args.id (opened (option_copied c.args.secret)) c.in-Ok.ensures.left

pub returns-in-Ok-clause-going : goal.returns-in-Ok-clause-going
returns-in-Ok-clause-going g c = ap is_closed_in (held_after c.args.gateway.now c.open.new.self c.args.id (opened (option_copied c.args.secret)) c.in-Ok.ensures.left)

pub returns-in-Ok-clause-takes : goal.returns-in-Ok-clause-takes
returns-in-Ok-clause-takes g c = ap bytes_refusal (held_after c.args.gateway.now c.open.new.self c.args.id (opened (option_copied c.args.secret)) c.in-Ok.ensures.left)

pub returns-in-Ok-clause-fresh : goal.returns-in-Ok-clause-fresh
returns-in-Ok-clause-fresh g c = unopened _ _ _ _ (λ e h. cc) c.in-Ok.ensures.answer
