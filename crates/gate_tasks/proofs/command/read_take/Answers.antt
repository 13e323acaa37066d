use Rattle.std.proofs.Common.{Some, None, refl, ◌∙◌}
use Rattle.gate_tasks.proofs.Commands.{take_line, take_one}
use Rattle.gate_tasks.proofs.command.read_take.Goals as goal

pub returns-in_err-id : goal.returns-in_err-id
returns-in_err-id c = c.from_residual.ensures ∙ take_one c.args.arguments.now c.in_err-id.ensures

pub returns-in_err-id-2 : goal.returns-in_err-id-2
returns-in_err-id-2 c =
    c.from_residual-in_err-id-2.ensures ∙ take_line c.args.arguments.now c.in_ok-id.id.now c.in_ok-id.most.now None _ c.in_ok-id.ensures c.in_err-id-2.ensures.number refl

pub returns-in_err-most : goal.returns-in_err-most
returns-in_err-most c =
    c.from_residual-in_err-most.ensures
    ∙ take_line c.args.arguments.now c.in_ok-id.id.now c.in_ok-id.most.now (Some c.in_ok-id-2.id) None c.in_ok-id.ensures c.in_ok-id-2.ensures.number c.in_err-most.ensures.number

pub returns : goal.returns
returns c =
    take_line c.args.arguments.now c.in_ok-id.id.now c.in_ok-id.most.now (Some c.in_ok-id-2.id) (Some c.in_ok-most.most) c.in_ok-id.ensures c.in_ok-id-2.ensures.number c.in_ok-most.ensures.number
