use Rattle.std.proofs.Common.{◌≢◌, ℕ, List}
use Rattle.std.specs.Prelude.{Option}
use Rattle.gate_flow.specs.declared.want.Want.TheVariants.{Advance}
use Rattle.gate_flow.specs.Steps.{Rests}
use Rattle.gate_tasks.specs.Turns.{RunsOn}
use Rattle.gate_tasks.proofs.connection.settle.Given as goal

abbrev pub invariant-writes : goal.invariant-writes
invariant-writes g l = record {
  runs : (left : Option (List ℕ)) → RunsOn l.fn.flow l.flow l.fn.gateway l.gateway left left (g.W.Write.contents l.fn.writer) (g.W.Write.contents l.writer);
  rests : l.flow.want ≢ Advance → Rests l.flow l.gateway;
}
