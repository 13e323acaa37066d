use Rattle.children_reader.proofs.Making.{made_are}
use Rattle.children_reader.proofs.laws.made_children_are_named.Goals as goal

pub returns : goal.returns
returns c = made_are
