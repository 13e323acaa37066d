use Rattle.gate_tasks.specs.Replies.{settings_by}
use Rattle.gate_tasks.proofs.Begins.{sharing_of}
use Rattle.gate_tasks.proofs.CallLemmas.{nothing_past}
use Rattle.gate_tasks.proofs.laws.nothing_was_left_by_no_items.Goals as goal

pub returns : goal.returns
returns c grid good = nothing_past (settings_by grid) (sharing_of grid good)
