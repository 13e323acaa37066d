use Rattle.grid.proofs.Views.{tell_on_none}
use Rattle.gate_core.proofs.connection.Connection.bytes.Goals as goal

pub returns-in_err-check_open-clause-told : goal.returns-in_err-check_open-clause-told
returns-in_err-check_open-clause-told g c = tell_on_none c.args.grid.now
