use Rattle.web_request.proofs.FaultLemmas.{first_given}
use Rattle.web_request.proofs.laws.the_first_fault_is_given.Goals as goal

pub returns : goal.returns
returns c = λ head body fault. first_given head body fault
