use Rattle.std.proofs.Common.{Some, None, refl, sym, ◌∙◌}
use Rattle.gate_tasks.proofs.Commands.{open_one, open_three, open_line}
use Rattle.gate_tasks.proofs.command.read_open.Goals as goal

pub returns-in_default : goal.returns-in_default
returns-in_default c = open_one c.args.arguments.now _ c.in_default.ensures c.read_bare_open.ensures

pub returns-in_default-split_at_byte : goal.returns-in_default-split_at_byte
returns-in_default-split_at_byte c =
    open_three c.args.arguments.now c.in-Some.id.now c.in-Some.secret.now c.in_default-split_at_byte.field-0.0.now c.in_default-split_at_byte.field-0.1.now
    c.in-Some.ensures c.in_default-split_at_byte.ensures

pub returns-in_default-read_number : goal.returns-in_default-read_number
returns-in_default-read_number c =
    open_line c.args.arguments.now c.in-Some.id.now c.in-Some.secret.now None _ c.in-Some.ensures c.in-None.ensures c.in_default-read_number.ensures.number refl

pub returns-in_default-2 : goal.returns-in_default-2
returns-in_default-2 c =
    open_line c.args.arguments.now c.in-Some.id.now c.in-Some.secret.now (Some c.in-Some-read_number.id) None c.in-Some.ensures c.in-None.ensures c.in-Some-read_number.ensures.number (sym c.in_default-2.is ∙ c.in_ok-secret.ensures)

pub returns : goal.returns
returns c =
    open_line c.args.arguments.now c.in-Some.id.now c.in-Some.secret.now (Some c.in-Some-read_number.id) (Some c.in-Some-2.secret) c.in-Some.ensures c.in-None.ensures c.in-Some-read_number.ensures.number (sym c.in-Some-2.is ∙ c.in_ok-secret.ensures)
