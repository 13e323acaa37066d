use Rattle.std.proofs.Common.{rules, append_assoc}
use Rattle.folder_shelf.specs.Names.{file_name}
use Rattle.folder_shelf.proofs.names.name_of.Goals as goal

pub returns : goal.returns
unfolding file_name
returns c = search (rules, append_assoc)
