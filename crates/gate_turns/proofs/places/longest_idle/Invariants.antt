use Rattle.std.proofs.Common.{◌≡◌, None}
use Rattle.gate_turns.proofs.Placing.{best_of}
use Rattle.gate_turns.proofs.places.longest_idle.Given as goal

-- the best one of those before and of those that are left is the best one of all
abbrev pub invariant-loop-id : goal.invariant-loop-id
invariant-loop-id l = best_of l.fn.wanted l.best l.id-iterator ≡ best_of l.fn.wanted None l.fn.seats.entries
