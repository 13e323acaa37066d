use Rattle.std.proofs.Common.{arith}
use Rattle.children_reader.proofs.TakenMembers.{few_items, many_items}
use Rattle.children_reader.proofs.taking.is_pair.Goals as goal

pub returns-in_default : goal.returns-in_default
returns-in_default c = few_items c.args.items.now (omega (arith, c.in_default.len_below))

pub returns-in_default-2 : goal.returns-in_default-2
returns-in_default-2 c = many_items c.args.items.now (omega (arith, c.in_default.len_at_least))
