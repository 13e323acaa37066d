use Rattle.std.proofs.Common.{◌≢◌, ◌*◌}
use Rattle.gate_flow.specs.declared.want.Want.TheVariants.{Write}
use Rattle.gate_flow.specs.Steps.{Rests}
use Rattle.gate_tasks.specs.Turns.{RunsOn, IsReadWithin}
use Rattle.gate_tasks.proofs.connection.take_turns.Given as goal

abbrev pub invariant-reads : goal.invariant-reads
invariant-reads g l = record {
  runs : RunsOn l.fn.flow l.flow l.fn.gateway l.gateway (g.R.Read.remaining l.fn.reader) (g.R.Read.remaining l.reader) (g.W.Write.contents l.fn.writer) (g.W.Write.contents l.writer);
  rests : Rests l.flow l.gateway;
  quiet : l.flow.want ≢ Write;
  bounded : IsReadWithin (65536 * l.done) (g.R.Read.remaining l.fn.reader) (g.R.Read.remaining l.reader);
}
