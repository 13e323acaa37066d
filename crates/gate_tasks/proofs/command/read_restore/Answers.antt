use Rattle.std.proofs.Common.{Some, None, sym, ◌∙◌}
use Rattle.gate_tasks.proofs.Commands.{restore_line}
use Rattle.gate_tasks.proofs.command.read_restore.Goals as goal

pub returns-in_default : goal.returns-in_default
returns-in_default c = restore_line c.args.arguments.now None (sym c.in_default.is ∙ c.in_ok-image.ensures)

pub returns : goal.returns
returns c = restore_line c.args.arguments.now (Some c.in-Some.image) (sym c.in-Some.is ∙ c.in_ok-image.ensures)
