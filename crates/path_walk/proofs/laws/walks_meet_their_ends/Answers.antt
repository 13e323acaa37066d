use Rattle.path_walk.proofs.WayLemmas.{beginning_is_met, end_is_met}
use Rattle.path_walk.proofs.laws.walks_meet_their_ends.Goals as goal

pub returns-clause-beginning : goal.returns-clause-beginning
returns-clause-beginning c gives here names = beginning_is_met gives here names

pub returns-clause-end : goal.returns-clause-end
returns-clause-end c gives here names end is = end_is_met gives here names end is
