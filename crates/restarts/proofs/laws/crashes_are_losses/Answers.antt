use Rattle.restarts.proofs.Ends.{resumed}
use Rattle.restarts.proofs.laws.crashes_are_losses.Goals as goal

pub returns : goal.returns
returns c settings w x st off =
    let laws = c.marks_follow_the_grid.ensures in
    resumed laws.put laws.lost laws.spoiled settings w x st off
