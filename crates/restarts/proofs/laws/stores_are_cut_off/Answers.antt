use Rattle.restarts.proofs.Places.{cut_off_at}
use Rattle.restarts.proofs.laws.stores_are_cut_off.Goals as goal

pub returns : goal.returns
returns c =
    let laws = c.marks_follow_the_grid.ensures in
    cut_off_at laws.put laws.lost laws.spoiled
