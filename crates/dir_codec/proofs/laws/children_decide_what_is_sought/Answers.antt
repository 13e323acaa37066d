use Rattle.dir_codec.proofs.SoughtNames.{sought_child, sought_nowhere}
use Rattle.dir_codec.proofs.laws.children_decide_what_is_sought.Goals as goal

pub returns : goal.returns
returns c = record {
  child = sought_child;
  none = sought_nowhere;
}
