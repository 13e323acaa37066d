use Rattle.std.proofs.Common.{Some, None, refl, sym, ◌∙◌}
use Rattle.gate_tasks.proofs.Commands.{spoil_one, spoil_two, spoil_three, spoil_line}
use Rattle.gate_tasks.proofs.command.read_spoil.Goals as goal

pub returns-in_default : goal.returns-in_default
returns-in_default c = spoil_one c.args.arguments.now c.in_default.ensures

pub returns-in_default-split_at_byte : goal.returns-in_default-split_at_byte
returns-in_default-split_at_byte c = spoil_two c.args.arguments.now c.in-Some.server.now c.in-Some.rest.now c.in-Some.ensures c.in_default-split_at_byte.ensures

pub returns-in_default-split_at_byte-2 : goal.returns-in_default-split_at_byte-2
returns-in_default-split_at_byte-2 c =
    spoil_three c.args.arguments.now c.in-Some.server.now c.in-Some.rest.now c.in-Some-split_at_byte.index.now c.in-Some-split_at_byte.rest.now c.in-Some.ensures c.in-Some-split_at_byte.ensures
    c.in_default-split_at_byte-2.ensures

pub returns-in_default-2 : goal.returns-in_default-2
returns-in_default-2 c =
    spoil_line c.args.arguments.now c.in-Some.server.now c.in-Some.rest.now c.in-Some-split_at_byte.index.now c.in-Some-split_at_byte.rest.now c.in-Some-split_at_byte-2.number.now
    c.in-Some-split_at_byte-2.place.now None _ c.in-Some.ensures c.in-Some-split_at_byte.ensures c.in-Some-split_at_byte-2.ensures (sym c.in_default-2.is ∙ c.in_ok-share.ensures) refl

pub returns-in_default-read_number : goal.returns-in_default-read_number
returns-in_default-read_number c =
    spoil_line c.args.arguments.now c.in-Some.server.now c.in-Some.rest.now c.in-Some-split_at_byte.index.now c.in-Some-split_at_byte.rest.now c.in-Some-split_at_byte-2.number.now
    c.in-Some-split_at_byte-2.place.now (Some c.in-Some-2.share) None c.in-Some.ensures c.in-Some-split_at_byte.ensures c.in-Some-split_at_byte-2.ensures (sym c.in-Some-2.is ∙ c.in_ok-share.ensures)
    c.in_default-read_number.ensures.number

pub returns : goal.returns
returns c =
    spoil_line c.args.arguments.now c.in-Some.server.now c.in-Some.rest.now c.in-Some-split_at_byte.index.now c.in-Some-split_at_byte.rest.now c.in-Some-split_at_byte-2.number.now
    c.in-Some-split_at_byte-2.place.now (Some c.in-Some-2.share) (Some c.in-Some-read_number.place) c.in-Some.ensures c.in-Some-split_at_byte.ensures c.in-Some-split_at_byte-2.ensures
    (sym c.in-Some-2.is ∙ c.in_ok-share.ensures) c.in-Some-read_number.ensures.number
