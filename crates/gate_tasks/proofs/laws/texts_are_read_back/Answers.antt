use Rattle.gate_tasks.proofs.TextLaws.{read_back}
use Rattle.gate_tasks.proofs.laws.texts_are_read_back.Goals as goal

pub returns : goal.returns
returns c = read_back
