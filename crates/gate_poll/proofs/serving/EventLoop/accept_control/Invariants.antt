use Rattle.std.proofs.Common.{◌≡◌, ◌≤◌}
use Rattle.gate_poll.specs.Table.{IsTableKept}
use Rattle.gate_poll.proofs.serving.EventLoop.accept_control.Given as goal

abbrev pub invariant-attempts : goal.invariant-attempts
invariant-attempts l = IsTableKept l.table × (l.fn.table.ids.next ≤ l.table.ids.next) × (l.table.peers ≡ l.fn.table.peers) × (l.table.turns ≡ l.fn.table.turns)
