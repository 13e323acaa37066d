use Rattle.std.proofs.Common.{◌≡◌, length}
use Rattle.client_tasks.proofs.jobs.lanes_to.Given as goal

-- there is a dialer for each turn so far
abbrev pub invariant-loop : goal.invariant-loop
invariant-loop g l = length l.dialers.items ≡ l.counter
