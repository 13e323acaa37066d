use Rattle.gate_tasks.proofs.Parts.{part_cut}
use Rattle.gate_tasks.proofs.lines.first_part.Goals as goal

pub returns-in-Some : goal.returns-in-Some
returns-in-Some c = part_cut c.args.bytes.now c.in-Some.line.now c.in-Some.field-0-1.now c.in-Some.ensures
