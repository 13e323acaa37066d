use Rattle.path_walk.proofs.Amid.{walks_one, one_walks}
use Rattle.std.proofs.Common.{◌≡◌, Result, sym, subst}
use Rattle.caps.specs.declared.cap.Cap.{Cap}
use Rattle.path_walk.specs.Amid.{WalksBy}
use Rattle.path_walk.specs.declared.fault.WalkFault.{WalkFault}
use Rattle.path_walk.proofs.laws.like_looks_walk_as_one.Goals as goal

pub returns : goal.returns
returns c gives cap names result = (
  walks_one gives cap names result,
  λ is. subst (λ (r : Result Cap WalkFault). WalksBy (λ f found. found ≡ gives f) cap names r) (sym is) (one_walks gives cap names),
)
