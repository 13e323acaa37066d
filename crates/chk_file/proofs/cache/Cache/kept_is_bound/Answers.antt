use Rattle.std.proofs.Common.{subst}
use Rattle.chk_file.specs.Cached.{AreBound}
use Rattle.chk_file.proofs.cache.Cache.kept_is_bound.Goals as goal

pub returns : goal.returns
returns c = subst AreBound c.self.view_is c.self.invariant.0
