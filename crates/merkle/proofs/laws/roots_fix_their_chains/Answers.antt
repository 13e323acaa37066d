use Rattle.merkle.proofs.Injective.{chain_unique}
use Rattle.merkle.proofs.laws.roots_fix_their_chains.Goals as goal

pub returns : goal.returns
returns c = chain_unique
