use Rattle.std.proofs.Common.{◌≡◌, ◌++◌, length}
use Rattle.gate_tasks.specs.Text.{escaped}
use Rattle.gate_tasks.proofs.text.escape.Given as goal

-- what was written, and then what is left to write
abbrev pub invariant-loop-plain : goal.invariant-loop-plain
invariant-loop-plain l = l.text.items ++ escaped l.rest ≡ l.initial.text.items ++ escaped l.bytes

abbrev pub decreases-loop-plain : goal.decreases-loop-plain
decreases-loop-plain l = length l.rest
