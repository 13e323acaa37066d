use Rattle.path_walk.proofs.WayLemmas.{walked_leads, walked_stops}
use Rattle.path_walk.proofs.laws.bound_looks_lead.Goals as goal

pub returns-clause-leads : goal.returns-clause-leads
returns-clause-leads c gives here names end bound is = walked_leads gives here names end bound is

pub returns-clause-stops : goal.returns-clause-stops
returns-clause-stops c gives here names fault bound is = walked_stops gives here names fault bound is
