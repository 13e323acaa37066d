use Rattle.std.proofs.Common.{refl, codes}
use Rattle.folder_shelf.proofs.Apart.{one_content, one_grid}
use Rattle.folder_shelf.proofs.laws.texts_are_told_apart.Goals as goal

pub returns : goal.returns
returns c = record { shares = one_content; settings = one_grid (codes "wozhinnam shelf2") refl }
