use Rattle.merkle.proofs.Levels.{shifted}
use Rattle.merkle.proofs.trees.leaf_count.Goals as goal

pub returns : goal.returns
returns c = shifted c.args.height c.requires
