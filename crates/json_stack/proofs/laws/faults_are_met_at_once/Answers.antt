use Rattle.json_stack.proofs.Endings.{fails_for_good, goes_on}
use Rattle.json_stack.proofs.laws.faults_are_met_at_once.Goals as goal

pub returns : goal.returns
returns c = record { none_follows = fails_for_good; some_follows = goes_on }
