use Rattle.std.proofs.Common.{arith}
use Rattle.children_reader.proofs.Stages.{none_named, all_named}
use Rattle.children_reader.proofs.naming.named_children.Goals as goal

pub returns-clause-ok : goal.returns-clause-ok
returns-clause-ok c ms outcomes =
    let fewer = c.in_ok-name_some.ensures.fewer in
    let all = c.len-all.ensures.len in
    all_named c.name_some.new.children.entries c.name_some.new.left.entries ms (omega (arith, fewer, all))
    (c.in_ok-name_some.ensures.ok ms (none_named c.new-children.result.entries c.args.outcomes.entries ms c.new-children.ensures.empty outcomes))

pub returns-clause-kept : goal.returns-clause-kept
returns-clause-kept c ms outcomes =
    (c.in_ok-name_some.ensures.ok ms (none_named c.new-children.result.entries c.args.outcomes.entries ms c.new-children.ensures.empty outcomes)).kept
