use Rattle.grid.proofs.Views.{tell_on_none}
use Rattle.gate_core.proofs.Stopping.{on_err, stopped_first}
use Rattle.gate_core.proofs.connection.Connection.receive.Goals as goal

pub returns-in_err-items-clause-stopped : goal.returns-in_err-items-clause-stopped
returns-in_err-items-clause-stopped g c = on_err c.from_residual.result (stopped_first _ _ _ c.args.grid.now c.args.tally.now)

pub returns-in_err-items-clause-told : goal.returns-in_err-items-clause-told
returns-in_err-items-clause-told g c = tell_on_none c.args.grid.now
