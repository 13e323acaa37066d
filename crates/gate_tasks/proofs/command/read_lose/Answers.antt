use Rattle.std.proofs.Common.{Some, None, sym, ◌∙◌}
use Rattle.gate_tasks.proofs.Commands.{lose_one, lose_two, lose_line}
use Rattle.gate_tasks.proofs.command.read_lose.Goals as goal

pub returns-in_default : goal.returns-in_default
returns-in_default c = lose_one c.args.arguments.now c.in_default.ensures

pub returns-in_default-split_at_byte : goal.returns-in_default-split_at_byte
returns-in_default-split_at_byte c = lose_two c.args.arguments.now c.in-Some.server.now c.in-Some.rest.now c.in-Some.ensures c.in_default-split_at_byte.ensures

pub returns-in_default-2 : goal.returns-in_default-2
returns-in_default-2 c =
    lose_line c.args.arguments.now c.in-Some.server.now c.in-Some.rest.now c.in-Some-split_at_byte.index.now c.in-Some-split_at_byte.number.now None c.in-Some.ensures c.in-Some-split_at_byte.ensures
    (sym c.in_default-2.is ∙ c.in_ok-share.ensures)

pub returns : goal.returns
returns c =
    lose_line c.args.arguments.now c.in-Some.server.now c.in-Some.rest.now c.in-Some-split_at_byte.index.now c.in-Some-split_at_byte.number.now (Some c.in-Some-2.share) c.in-Some.ensures
    c.in-Some-split_at_byte.ensures (sym c.in-Some-2.is ∙ c.in_ok-share.ensures)
