use Rattle.std.proofs.Common.{ap}
use Rattle.std.specs.Ordering.{nat_cmp}
use Rattle.std.specs.BTreeMap.{is_at}
use Rattle.std.specs.Map.{lookup}
use Rattle.gate_base.proofs.Turns.{no_ids}
use Rattle.gate_base.proofs.ids.Ids.new.Goals as goal

pub returns : goal.returns
returns c = no_ids _ (λ x. ap (lookup (is_at (nat_cmp x))) c.new.ensures.empty)
