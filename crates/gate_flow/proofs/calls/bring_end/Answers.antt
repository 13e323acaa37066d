use Rattle.std.proofs.Common.{refl, ap}
use Rattle.gate_core.specs.Events.{End}
use Rattle.gate_core.specs.ConnectionState.{State, connection_at, waiting, bytes_refusal}
use Rattle.gate_flow.proofs.Leading.{ended_led, end_waits, end_same, end_over, end_refused, end_still_over, calm_on}
use Rattle.gate_flow.proofs.calls.bring_end.Goals as goal

pub returns-in-Ok-clause-led : goal.returns-in-Ok-clause-led
returns-in-Ok-clause-led g c = ended_led c.faithful_goes_on.ensures.ended c.args.id c.args.gateway.now c.end.new.self _ _ (λ e h. cc) c.in-Ok.ensures.answer c.in-Ok.ensures.left c.in-Ok.ensures.others

pub returns-in-Ok-clause-as_written : goal.returns-in-Ok-clause-as_written
returns-in-Ok-clause-as_written g c = calm_on c.args.gateway.now c.end.new.self (End c.args.id) c.in-Ok.ensures.came

pub returns-in-Ok-clause-same : goal.returns-in-Ok-clause-same
returns-in-Ok-clause-same g c = end_waits c.args.id c.args.gateway.now c.end.new.self _ _ (λ e h. cc) c.in-Ok.ensures.answer c.in-Ok.ensures.left

pub returns-in-Ok-clause-over : goal.returns-in-Ok-clause-over
returns-in-Ok-clause-over g c = end_over c.args.id c.args.gateway.now c.end.new.self _ _ (λ e h. cc) c.in-Ok.ensures.answer c.in-Ok.ensures.left

pub returns-in-Err-clause-err : goal.returns-in-Err-clause-err
returns-in-Err-clause-err g c = end_same c.args.gateway.now c.end.new.self _ _ (bytes_refusal (connection_at c.args.gateway.now c.args.id)) refl c.in-Err.ensures.answer

pub returns-in-Err-clause-same : goal.returns-in-Err-clause-same
returns-in-Err-clause-same g c =
    ap (λ (s : State). waiting s c.args.id) (end_same c.args.gateway.now c.end.new.self _ _ (bytes_refusal (connection_at c.args.gateway.now c.args.id)) refl c.in-Err.ensures.answer)

pub returns-in-Err-clause-over : goal.returns-in-Err-clause-over
returns-in-Err-clause-over g c = end_still_over c.args.id c.args.gateway.now c.end.new.self _ _ refl c.in-Err.ensures.answer

pub returns-in-Err-clause-refused : goal.returns-in-Err-clause-refused
returns-in-Err-clause-refused g c = end_refused c.args.gateway.now c.end.new.self (bytes_refusal (connection_at c.args.gateway.now c.args.id)) _ _ refl c.in-Err.ensures.answer
