use Rattle.gate_core.proofs.Checks.{check_is_of_row, check_in_worlds}
use Rattle.gate_core.proofs.laws.checks_look_at_one_row.Goals as goal

pub returns : goal.returns
returns c = record { reply = check_is_of_row; answer = check_in_worlds }
