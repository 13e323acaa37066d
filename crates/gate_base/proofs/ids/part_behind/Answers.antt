use Rattle.std.proofs.Common.{Some}
use Rattle.gate_base.proofs.Turns.{turned, written_same}
use Rattle.gate_base.proofs.ids.part_behind.Goals as goal

pub returns-in-Ok-clause-same : goal.returns-in-Ok-clause-same
returns-in-Ok-clause-same c x =
    written_same _ _ c.in-Some.next c.is_among-holds.result (turned _ _ c.in-Some.next (Some c.is_among-holds.result) c.in-Ok.ensures.updates.1 c.in-Ok.ensures.updates.2) c.is_among-holds.ensures x
