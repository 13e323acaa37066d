use Rattle.shared_folder.proofs.Tagged.{one_process}
use Rattle.shared_folder.proofs.laws.processes_are_told_apart.Goals as goal

pub returns : goal.returns
returns c = one_process
