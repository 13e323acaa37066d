use Rattle.std.proofs.Common.{◌≡◌}
use Rattle.gate_control.proofs.control.ControlConnection.answer_first.Given as goal

abbrev pub invariant-loop-item : goal.invariant-loop-item
invariant-loop-item g l = record {
  going : (goal.iterator-loop-item g).can_next l.item-iterator;
  finite : (goal.iterator-loop-item g).is_finite l.item-iterator;
  taken : l.self.taken ≡ l.fn.self.taken;
  here : l.self.here ≡ l.fn.self.here;
  control : l.control ≡ l.fn.control;
}
