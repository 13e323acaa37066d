use Rattle.gate_base.proofs.Queues.{some_first, some_second}
use Rattle.gate_base.proofs.output.Output.is_empty.Goals as goal
use Rattle.gate_base.proofs.output.Output.is_empty.Goals.{then-not-is_empty-via-then-not-is_empty, then-not-is_empty-via-else-not-is_empty+then-not-is_empty-2}

pub returns-then-not-is_empty : goal.returns-then-not-is_empty
returns-then-not-is_empty c = rw (← c.self.view_is) (elim c.then-not-is_empty.branch [
  | then-not-is_empty-via-then-not-is_empty w ↦ some_first _ _ _ w.if-not-is_empty.true c.is_empty.ensures
  | then-not-is_empty-via-else-not-is_empty+then-not-is_empty-2 w ↦ some_second c.self.inside.front _ _ _ w.if-not-is_empty-2.true w.is_empty-else-not-is_empty.ensures
])
