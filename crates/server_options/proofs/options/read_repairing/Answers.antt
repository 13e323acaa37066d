use Rattle.std.proofs.Common.{ap, not}
use Rattle.server_options.proofs.options.read_repairing.Goals as goal

pub returns : goal.returns
returns c = record {
  places = c.in_ok-places.ensures;
  new = c.in_ok-may_be_new.ensures;
  synced = ap not c.has_flag.ensures;
  redis_password_file = c.find_word-password_file.ensures;
}
