use Rattle.path_walk.proofs.WalkLemmas.{walks_agree, met_agree}
use Rattle.path_walk.proofs.laws.walks_agree_where_looks_do.Goals as goal

pub returns-clause-walks : goal.returns-clause-walks
returns-clause-walks c gives other cap names same = walks_agree gives other cap names same

pub returns-clause-met : goal.returns-clause-met
returns-clause-met c gives other cap names same = met_agree gives other cap names same
