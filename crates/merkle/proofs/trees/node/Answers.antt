use Rattle.merkle.specs.Node.{node, node_tag}
use Rattle.merkle.proofs.trees.node.Goals as goal

pub returns : goal.returns
unfolding node node_tag
returns c = c.pair.ensures
