use Rattle.std.proofs.Common.{refl, codes}
use Rattle.folder_shelf.proofs.Apart.{one_grid}
use Rattle.redis_store.specs.GridText.{grid_text}
use Rattle.redis_store.proofs.laws.grids_are_told_apart.Goals as goal

pub returns : goal.returns
unfolding grid_text
returns c = one_grid (codes "wozhinnam redis1") refl
