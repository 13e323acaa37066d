use Rattle.std.proofs.Common.{◌≡◌}
use Rattle.chk_file.proofs.check_ahead.readings_of.Given as goal

abbrev pub invariant-loop-server : goal.invariant-loop-server
invariant-loop-server g l = l.readings ≡ l.params
