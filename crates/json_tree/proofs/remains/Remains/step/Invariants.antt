use Rattle.std.proofs.Common.{◌≡◌, ◌+◌}
use Rattle.json_tree.specs.Remains.{parts_left}
use Rattle.json_tree.proofs.remains.Remains.step.Given as goal

abbrev pub invariant-loop-i : goal.invariant-loop-i
invariant-loop-i l = parts_left l.self + l.i ≡ parts_left l.fn.self
