use Rattle.gate_core.proofs.PagesTold.{same_world, same_left}
use Rattle.gate_core.proofs.laws.pages_leave_no_trace.Goals as goal

pub returns : goal.returns
returns c = record { world = same_world; left = same_left }
