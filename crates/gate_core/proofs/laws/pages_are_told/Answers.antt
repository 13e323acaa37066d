use Rattle.gate_core.proofs.PagesTold.{told_page, told_none}
use Rattle.gate_core.proofs.laws.pages_are_told.Goals as goal

pub returns : goal.returns
returns c = record { told = told_page; none = told_none }
