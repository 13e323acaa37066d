use Rattle.std.proofs.Common.{◌≡◌, ◌+◌, length}
use Rattle.gate_flow.specs.Parts.{line_ends}
use Rattle.gate_flow.proofs.part.line_ends.Given as goal

-- those that were counted and those of the rest are all
abbrev pub invariant-loop-rest : goal.invariant-loop-rest
invariant-loop-rest l = (l.count + line_ends l.rest ≡ line_ends l.bytes) × (l.count + length l.rest ≡ length l.bytes)

abbrev pub decreases-loop-rest : goal.decreases-loop-rest
decreases-loop-rest l = length l.rest
