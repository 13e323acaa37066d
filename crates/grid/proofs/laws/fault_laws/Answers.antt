use Rattle.grid.proofs.FaultReads.{first_fault}
use Rattle.grid.proofs.laws.fault_laws.Goals as goal

pub returns : goal.returns
returns c = record { first_fault = first_fault }
