use Rattle.std.proofs.Common.{subst}
use Rattle.gate_tasks.specs.Running.{IsProgress}
use Rattle.gate_tasks.proofs.Steps.{call_answered, call_none}
use Rattle.gate_tasks.proofs.script.go_on.Goals as goal

pub returns-in_default : goal.returns-in_default
returns-in_default c log at told =
    let was = c.args.progress.now.grid in
    call_none log was c.args.call.now (subst (IsProgress log was) c.in_default.is at)

pub returns : goal.returns
returns c log at told =
    let was = c.args.progress.now.grid in
    call_answered c.in-Some.gateway c.carry_out.new.gateway c.args.call.now c.in_ok-reply.reply c.in_ok-reply.ensures log was (subst (IsProgress log was) c.in-Some.is at) told
