use Rattle.tag_hash.proofs.Firsts.{fault_is_first}
use Rattle.tag_hash.proofs.laws.faults_are_the_first.Goals as goal

pub returns : goal.returns
returns c = fault_is_first
