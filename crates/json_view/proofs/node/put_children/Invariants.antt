use Rattle.std.proofs.Common.{◌≡◌, ◌++◌, map, take}
use Rattle.std.specs.List.{join_with_byte}
use Rattle.json_view.specs.Nodes.{child_text}
use Rattle.json_view.proofs.node.put_children.Given as goal

abbrev pub invariant-loop-at : goal.invariant-loop-at
invariant-loop-at l = l.out.items ≡ l.fn.out.items ++ join_with_byte 44 (map child_text (take l.at l.entries))
