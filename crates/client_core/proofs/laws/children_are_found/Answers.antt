use Rattle.client_core.proofs.Found.{child_found}
use Rattle.client_core.proofs.laws.children_are_found.Goals as goal

pub returns : goal.returns
returns c = child_found c.texts_and_entries_belong_together.ensures.only
