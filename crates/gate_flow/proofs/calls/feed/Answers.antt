use Rattle.std.proofs.Common.{refl}
use Rattle.gate_core.specs.ConnectionState.{connection_at}
use Rattle.gate_flow.proofs.Leading.{bytes_led, bytes_open, refused_led, bytes_refused, call_fault}
use Rattle.gate_flow.proofs.calls.feed.Goals as goal

pub returns-in-Ok-clause-led : goal.returns-in-Ok-clause-led
returns-in-Ok-clause-led g c =
    bytes_led c.faithful_goes_on.ensures.received c.args.id c.args.piece.now c.args.gateway.now c.bytes.new.self _ _ (λ e h. cc) c.in-Ok.ensures.answer c.in-Ok.ensures.received c.in-Ok.ensures.others c.in-Ok.ensures.leaves

pub returns-in-Ok-clause-as_written : goal.returns-in-Ok-clause-as_written
returns-in-Ok-clause-as_written g c = c.in-Ok.ensures.came

pub returns-in-Ok-clause-takes : goal.returns-in-Ok-clause-takes
returns-in-Ok-clause-takes g c = bytes_open c.args.id c.args.piece.now c.args.gateway.now c.bytes.new.self _ _ (λ e h. cc) c.in-Ok.ensures.answer c.in-Ok.ensures.received

pub returns-in-Err-clause-err : goal.returns-in-Err-clause-err
returns-in-Err-clause-err g c =
    refused_led c.faithful_goes_on.ensures.cut c.args.id _ _ c.args.gateway.now c.bytes.new.self refl c.in-Err.ensures.answer c.in-Err.ensures.no_memory c.in-Err.ensures.others c.in-Err.ensures.leaves

pub returns-in-Err-clause-faults : goal.returns-in-Err-clause-faults
returns-in-Err-clause-faults g c =
    call_fault (connection_at c.args.gateway.now c.args.id) c.in-Err.fault c.from.result c.from.ensures (λ other. bytes_refused _ c.in-Err.fault _ _ refl other c.in-Err.ensures.answer)
