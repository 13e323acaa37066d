-- Exit statuses.
use Rattle.std.specs.Prelude.{ℕ, Result, Ok, Err}
use Rattle.gate_tasks.specs.declared.fault.ProgramFault.{ProgramFault}
use Rattle.gate_tasks.specs.declared.fault.ProgramFault.TheVariants.{Usage, Script, BindFailed, Serve, Connections, NoMemory}

-- done, a fault, wrong arguments
abbrev pub done_status : ℕ
done_status = 0

abbrev pub fault_status : ℕ
fault_status = 1

abbrev pub usage_status : ℕ
usage_status = 2

-- the status of an outcome
abbrev pub outcome_status : Result (Unit {0}) ProgramFault → ℕ
outcome_status (Ok done) = done_status
outcome_status (Err (Usage fault)) = usage_status
outcome_status (Err (Script fault)) = fault_status
outcome_status (Err BindFailed) = fault_status
outcome_status (Err (Serve fault)) = fault_status
outcome_status (Err (Connections count)) = fault_status
outcome_status (Err NoMemory) = fault_status
