use Rattle.restarts.proofs.Runs.{reopened}
use Rattle.restarts.proofs.laws.runs_go_on.Goals as goal

pub returns : goal.returns
returns c = reopened c.crashes_are_losses.ensures c.came_begins.ensures
