use Rattle.gate_core.proofs.Steps.{Came-begins}
use Rattle.gate_core.proofs.laws.came_begins.Goals as goal

pub returns : goal.returns
returns c = Came-begins
