use Rattle.children_reader.proofs.TakenMembers.{left_child}
use Rattle.children_reader.proofs.taking.Taking.step.Goals as goal

pub returns-in_ok-write_on-in-Some-clause-taken : goal.returns-in_ok-write_on-in-Some-clause-taken
returns-in_ok-write_on-in-Some-clause-taken c ts from =
    let left = left_child ts c.args.self c.in-Some.child c.in-Some.is from in
    c.in_ok-write_on-in-Some.ensures.taken ts left.0 left.1 left.2
