use Rattle.merkle.proofs.trees.+subtree_root.Given as goal

abbrev pub decreases-subtree_root : goal.decreases-subtree_root
decreases-subtree_root l = l.height
