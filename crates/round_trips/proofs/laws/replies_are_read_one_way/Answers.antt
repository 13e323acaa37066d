use Rattle.round_trips.proofs.Readings.{read_off}
use Rattle.round_trips.proofs.laws.replies_are_read_one_way.Goals as goal

pub returns : goal.returns
returns c = read_off c.checks_look_at_one_row.ensures.reply
