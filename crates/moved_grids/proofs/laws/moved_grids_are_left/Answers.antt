use Rattle.moved_grids.proofs.MovedWorlds.{moved_is_left, moved_partly_is_left}
use Rattle.moved_grids.proofs.laws.moved_grids_are_left.Goals as goal

pub returns : goal.returns
returns c = record {
  whole = moved_is_left c.one_share_is_moved.ensures.one c.came_begins.ensures;
  partly = moved_partly_is_left c.one_share_is_moved.ensures.one c.came_begins.ensures;
}
