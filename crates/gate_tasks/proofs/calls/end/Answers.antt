use Rattle.gate_tasks.proofs.CallLemmas.{end_called}
use Rattle.gate_tasks.proofs.calls.end.Goals as goal

pub returns-in-Ok : goal.returns-in-Ok
returns-in-Ok c = end_called c.args.gateway.now c.end.new.self c.args.id _ _ (λ e h. cc) c.in-Ok.ensures.answer c.in-Ok.ensures.left c.in-Ok.ensures.came
