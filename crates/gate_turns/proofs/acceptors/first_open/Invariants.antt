use Rattle.std.proofs.Common.{ℕ, ◌≤◌, ◌<◌}
use Rattle.gate_turns.specs.Acceptors.{MayAcceptAt}
use Rattle.gate_turns.proofs.acceptors.first_open.Given as goal

-- none may be accepted at those that were looked at
abbrev pub invariant-loop-place : goal.invariant-loop-place
invariant-loop-place l = (l.fn.from ≤ l.place) × ((other : ℕ) → l.fn.from ≤ other → other < l.place → MayAcceptAt l.fn.acceptors other l.fn.now l.fn.room → ⊥)
