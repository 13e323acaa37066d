use Rattle.restarts.proofs.Mends.{mended}
use Rattle.restarts.proofs.laws.refused_items_are_mended.Goals as goal

pub returns : goal.returns
returns c = mended c.crashes_are_losses.ensures c.came_begins.ensures
