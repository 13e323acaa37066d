use Rattle.std.proofs.Common.{◌≡◌}
use Rattle.gate_turns.specs.Lanes.{turns_due}
use Rattle.gate_poll.specs.Table.{IsTableKept}
use Rattle.gate_poll.proofs.serving.mark.Given as goal

abbrev pub invariant-loop-event : goal.invariant-loop-event
invariant-loop-event l = IsTableKept l.table × (l.table.ids ≡ l.fn.table.ids) × (l.table.peers ≡ l.fn.table.peers) × (turns_due l.table.turns.lanes ≡ turns_due l.fn.table.turns.lanes)
