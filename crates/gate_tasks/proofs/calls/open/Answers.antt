use Rattle.std.proofs.Common.{subst}
use Rattle.gate_tasks.specs.Running.{IsCalled}
use Rattle.gate_tasks.specs.declared.command.Call.TheVariants as call
use Rattle.gate_tasks.specs.declared.reply.Reply.TheVariants.{Done}
use Rattle.gate_tasks.proofs.CallLemmas.{open_called}
use Rattle.gate_tasks.proofs.calls.open.Goals as goal

pub returns-in-Ok : goal.returns-in-Ok
returns-in-Ok c =
    subst (λ secret. IsCalled c.args.gateway.now c.open.new.self (call.Open c.args.id secret) Done) c.lent.ensures
    (open_called c.args.gateway.now c.open.new.self c.args.id _ _ _ (λ e h. cc) c.in-Ok.ensures.answer c.in-Ok.ensures.left c.in-Ok.ensures.came)
