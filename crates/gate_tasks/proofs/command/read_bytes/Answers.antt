use Rattle.std.proofs.Common.{Some, None, refl, sym, ◌∙◌}
use Rattle.gate_tasks.proofs.Commands.{bytes_line, bytes_one}
use Rattle.gate_tasks.proofs.command.read_bytes.Goals as goal

pub returns-in_default : goal.returns-in_default
returns-in_default c = bytes_one c.args.arguments.now c.in_default.ensures

pub returns-in_default-read_number : goal.returns-in_default-read_number
returns-in_default-read_number c = bytes_line c.args.arguments.now c.in-Some.id.now c.in-Some.text.now None _ c.in-Some.ensures c.in_default-read_number.ensures.number refl

pub returns-in_default-2 : goal.returns-in_default-2
returns-in_default-2 c =
    bytes_line c.args.arguments.now c.in-Some.id.now c.in-Some.text.now (Some c.in-Some-read_number.id) None c.in-Some.ensures c.in-Some-read_number.ensures.number (sym c.in_default-2.is ∙ c.in_ok-piece.ensures)

pub returns : goal.returns
returns c =
    bytes_line c.args.arguments.now c.in-Some.id.now c.in-Some.text.now (Some c.in-Some-read_number.id) (Some c.in-Some-2.piece) c.in-Some.ensures c.in-Some-read_number.ensures.number
    (sym c.in-Some-2.is ∙ c.in_ok-piece.ensures)
