use Rattle.client_tree.proofs.Bound.{tree_bound}
use Rattle.client_tree.proofs.laws.trees_are_bound.Goals as goal

pub returns : goal.returns
returns c = tree_bound c.children_are_found.ensures
