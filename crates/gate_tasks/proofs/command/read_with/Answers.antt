use Rattle.std.proofs.Common.{ap, sym, ◌∙◌}
use Rattle.gate_tasks.specs.Command.{words, asked_with}
use Rattle.gate_tasks.proofs.Commands.{image_line}
use Rattle.gate_tasks.proofs.command.read_with.Goals as goal

pub returns-in-Image : goal.returns-in-Image
returns-in-Image c = image_line c.args.arguments.now ∙ ap (λ verb. asked_with verb (words c.args.arguments.now)) (sym c.in-Image.is)
