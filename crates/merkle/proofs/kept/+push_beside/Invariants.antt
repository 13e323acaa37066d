use Rattle.merkle.proofs.kept.+push_beside.Given as goal

abbrev pub decreases-push_beside : goal.decreases-push_beside
decreases-push_beside l = l.height
