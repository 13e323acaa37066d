use Rattle.std.proofs.Common.{Some, None, ◌∙◌}
use Rattle.gate_tasks.proofs.Commands.{end_line}
use Rattle.gate_tasks.proofs.command.read_end.Goals as goal

pub returns-in_err-id : goal.returns-in_err-id
returns-in_err-id c = c.from_residual.ensures ∙ end_line c.args.arguments.now None c.in_err-id.ensures.number

pub returns : goal.returns
returns c = end_line c.args.arguments.now (Some c.in_ok-id.id) c.in_ok-id.ensures.number
