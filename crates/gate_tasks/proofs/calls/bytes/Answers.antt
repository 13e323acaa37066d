use Rattle.gate_tasks.proofs.CallLemmas.{bytes_called}
use Rattle.gate_tasks.proofs.calls.bytes.Goals as goal

pub returns-in-Ok : goal.returns-in-Ok
returns-in-Ok c =
    bytes_called c.args.gateway.now c.bytes-done.new.self c.args.id c.args.piece.now _ _ (λ e h. cc) c.in-Ok.ensures.answer c.in-Ok.ensures.received c.no_store_failed.ensures c.no_store_failed-2.ensures c.in-Ok.ensures.came
