use Rattle.std.proofs.Common.{refl}
use Rattle.gate_core.specs.ConnectionState.{connection_at}
use Rattle.gate_flow.proofs.Leading.{taken_led, take_splits, take_stays, take_refused, call_fault}
use Rattle.gate_flow.proofs.calls.take_first.Goals as goal

pub returns-in-Ok-clause-led : goal.returns-in-Ok-clause-led
returns-in-Ok-clause-led g c =
    taken_led c.faithful_goes_on.ensures.taken c.args.id c.args.max c.in-Ok.given.items c.args.gateway.now c.take.new.self _ _ (λ e h. cc) c.in-Ok.ensures.answer c.in-Ok.ensures.given c.in-Ok.ensures.left c.in-Ok.ensures.others

pub returns-in-Ok-clause-rest : goal.returns-in-Ok-clause-rest
returns-in-Ok-clause-rest g c =
    take_splits c.args.id c.args.max c.in-Ok.given.items c.args.gateway.now c.take.new.self _ _ (λ e h. cc) c.in-Ok.ensures.answer c.in-Ok.ensures.given c.in-Ok.ensures.left

pub returns-in-Ok-clause-stays : goal.returns-in-Ok-clause-stays
returns-in-Ok-clause-stays g c = take_stays c.args.id c.args.max c.args.gateway.now c.take.new.self _ _ (λ e h. cc) c.in-Ok.ensures.answer c.in-Ok.ensures.left

pub returns-in-Err-clause-faults : goal.returns-in-Err-clause-faults
returns-in-Err-clause-faults g c =
    call_fault (connection_at c.args.gateway.now c.args.id) c.in-Err.fault c.from.result c.from.ensures (λ other. take_refused _ c.in-Err.fault _ _ refl other c.in-Err.ensures.answer)
