use Rattle.std.proofs.Common.{◌≡◌, ◌++◌}
use Rattle.children_reader.specs.Named.{entries_of}
use Rattle.children_reader.proofs.children.in_order.Given as goal

abbrev pub invariant-loop-name : goal.invariant-loop-name
invariant-loop-name l = l.entries.items ++ entries_of l.name-iterator ≡ entries_of l.fn.children.entries
