use Rattle.std.proofs.Common.{refl}
use Rattle.gate_flow.specs.declared.fault.FlowFault.TheVariants.{WriteFailed}
use Rattle.gate_tasks.proofs.Turning.{write_stops}
use Rattle.gate_tasks.proofs.connection.write_once.Goals as goal

pub returns-in-Ok-Blocked-clause-stops : goal.returns-in-Ok-Blocked-clause-stops
returns-in-Ok-Blocked-clause-stops g c h = write_stops WriteFailed h c.args.flow.now c.write_to.new.self (c.in-Ok-Blocked.ensures.blocked (rw c.in-Ok-Blocked.field-0-is refl)) c.requires.some tt

pub returns-in-Err-clause-stops : goal.returns-in-Err-clause-stops
returns-in-Err-clause-stops g c h = write_stops c.in-Err.fault h c.args.flow.now c.write_to.new.self c.in-Err.ensures.err c.requires.some c.in-Err.ensures.faults
