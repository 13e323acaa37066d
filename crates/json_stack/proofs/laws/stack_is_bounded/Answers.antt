use Rattle.json_stack.proofs.Runs.{levels_are_bounded}
use Rattle.json_stack.proofs.laws.stack_is_bounded.Goals as goal

pub returns : goal.returns
returns c = levels_are_bounded
