use Rattle.json_spelling.proofs.Printed.{printed}
use Rattle.json_spelling.proofs.laws.whole_values_are_read_back.Goals as goal

pub returns : goal.returns
returns c = printed
