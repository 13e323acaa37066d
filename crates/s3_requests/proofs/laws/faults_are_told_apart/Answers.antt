use Rattle.s3_requests.proofs.FaultLemmas.{one_fault}
use Rattle.s3_requests.proofs.laws.faults_are_told_apart.Goals as goal

pub returns : goal.returns
returns c = one_fault
