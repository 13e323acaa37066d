use Rattle.std.proofs.Common.{◌≡◌}
use Rattle.file_shares.proofs.judging.readings_of.Given as goal

abbrev pub invariant-loop-number : goal.invariant-loop-number
invariant-loop-number l = l.readings ≡ l.params
