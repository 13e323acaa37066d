use Rattle.std.proofs.Common.{refl}
use Rattle.gate_flow.specs.declared.fault.FlowFault.TheVariants.{ReadFailed}
use Rattle.gate_tasks.specs.Turns.{most_at_a_time}
use Rattle.gate_tasks.proofs.Turning.{read_stops, still_within}
use Rattle.gate_tasks.proofs.connection.read_once.Goals as goal

pub returns-in-Ok-Blocked-clause-stops : goal.returns-in-Ok-Blocked-clause-stops
returns-in-Ok-Blocked-clause-stops g c h rests = read_stops ReadFailed h c.args.flow.now c.read_from.new.self (c.in-Ok-Blocked.ensures.blocked (rw c.in-Ok-Blocked.field-0-is refl)) c.requires rests tt

pub returns-in-Ok-Blocked-clause-bounded : goal.returns-in-Ok-Blocked-clause-bounded
returns-in-Ok-Blocked-clause-bounded g c =
    still_within c.args.flow.now c.read_from.new.self (g.R.Read.remaining c.args.reader.now) (g.R.Read.remaining c.read_from.new.reader) most_at_a_time c.in-Ok-Blocked.ensures.read (c.in-Ok-Blocked.ensures.blocked (rw c.in-Ok-Blocked.field-0-is refl))

pub returns-in-Err-clause-stops : goal.returns-in-Err-clause-stops
returns-in-Err-clause-stops g c h rests = read_stops c.in-Err.fault h c.args.flow.now c.read_from.new.self c.in-Err.ensures.err c.requires rests c.in-Err.ensures.faults

pub returns-in-Err-clause-bounded : goal.returns-in-Err-clause-bounded
returns-in-Err-clause-bounded g c =
    still_within c.args.flow.now c.read_from.new.self (g.R.Read.remaining c.args.reader.now) (g.R.Read.remaining c.read_from.new.reader) most_at_a_time c.in-Err.ensures.read c.in-Err.ensures.err
