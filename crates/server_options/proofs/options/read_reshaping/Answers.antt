use Rattle.std.proofs.Common.{ap, not}
use Rattle.server_options.proofs.options.read_reshaping.Goals as goal

pub returns : goal.returns
returns c = record {
  from = c.in_ok-from.ensures;
  into = c.in_ok-into.ensures;
  synced = ap not c.has_flag.ensures;
}
