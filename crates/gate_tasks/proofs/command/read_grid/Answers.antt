use Rattle.gate_tasks.proofs.Commands.{grid_one, grid_two, grid_three, grid_four, grid_five, grid_six}
use Rattle.gate_tasks.proofs.command.read_grid.Goals as goal

pub returns-in_default : goal.returns-in_default
returns-in_default c = grid_one c.args.arguments.now c.in_default.ensures

pub returns-in_default-split_at_byte : goal.returns-in_default-split_at_byte
returns-in_default-split_at_byte c = grid_two c.args.arguments.now c.in-Some.k.now c.in-Some.rest.now c.in-Some.ensures c.in_default-split_at_byte.ensures

pub returns-in_default-split_at_byte-2 : goal.returns-in_default-split_at_byte-2
returns-in_default-split_at_byte-2 c =
    grid_three c.args.arguments.now c.in-Some.k.now c.in-Some.rest.now c.in-Some-split_at_byte.n.now c.in-Some-split_at_byte.rest.now c.in-Some.ensures c.in-Some-split_at_byte.ensures
    c.in_default-split_at_byte-2.ensures

pub returns-in_default-split_at_byte-3 : goal.returns-in_default-split_at_byte-3
returns-in_default-split_at_byte-3 c =
    grid_four c.args.arguments.now c.in-Some.k.now c.in-Some.rest.now c.in-Some-split_at_byte.n.now c.in-Some-split_at_byte.rest.now c.in-Some-split_at_byte-2.servers.now
    c.in-Some-split_at_byte-2.rest.now c.in-Some.ensures c.in-Some-split_at_byte.ensures c.in-Some-split_at_byte-2.ensures c.in_default-split_at_byte-3.ensures

pub returns-in_default-split_at_byte-4 : goal.returns-in_default-split_at_byte-4
returns-in_default-split_at_byte-4 c =
    grid_six c.args.arguments.now c.in-Some.k.now c.in-Some.rest.now c.in-Some-split_at_byte.n.now c.in-Some-split_at_byte.rest.now c.in-Some-split_at_byte-2.servers.now
    c.in-Some-split_at_byte-2.rest.now c.in-Some-split_at_byte-3.room.now c.in-Some-split_at_byte-3.secret.now c.in_default-split_at_byte-4.field-0.0.now c.in_default-split_at_byte-4.field-0.1.now
    c.in-Some.ensures c.in-Some-split_at_byte.ensures c.in-Some-split_at_byte-2.ensures c.in-Some-split_at_byte-3.ensures c.in_default-split_at_byte-4.ensures

pub returns : goal.returns
returns c =
    grid_five c.args.arguments.now c.in-Some.k.now c.in-Some.rest.now c.in-Some-split_at_byte.n.now c.in-Some-split_at_byte.rest.now c.in-Some-split_at_byte-2.servers.now
    c.in-Some-split_at_byte-2.rest.now c.in-Some-split_at_byte-3.room.now c.in-Some-split_at_byte-3.secret.now c.in_ok-command.command
    c.in-Some.ensures c.in-Some-split_at_byte.ensures c.in-Some-split_at_byte-2.ensures c.in-Some-split_at_byte-3.ensures c.in-None.ensures c.in_ok-command.ensures
