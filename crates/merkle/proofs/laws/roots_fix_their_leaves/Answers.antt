use Rattle.merkle.proofs.Injective.{root_injective}
use Rattle.merkle.proofs.laws.roots_fix_their_leaves.Goals as goal

pub returns : goal.returns
returns c = root_injective
