use Rattle.folder_shelf.proofs.Apart.{one_place}
use Rattle.folder_shelf.proofs.laws.names_are_told_apart.Goals as goal

pub returns : goal.returns
returns c = one_place
