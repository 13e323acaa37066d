use Rattle.many_gates.proofs.Looks.{are_seen}
use Rattle.many_gates.proofs.laws.calls_see_what_changes_leave.Goals as goal

pub returns : goal.returns
returns c settings changes before old new views all are changed = are_seen settings changes before old new views all are changed
