use Rattle.gate_core.proofs.Telling.{told_whole, told_begins}
use Rattle.gate_core.proofs.laws.callers_are_told_what_they_asked.Goals as goal

pub returns : goal.returns
returns c = record { whole = told_whole; begun = told_begins c.left_over.ensures.items_first }
