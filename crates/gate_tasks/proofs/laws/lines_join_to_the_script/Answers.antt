use Rattle.gate_tasks.proofs.LineLists.{lines_join}
use Rattle.gate_tasks.proofs.laws.lines_join_to_the_script.Goals as goal

pub returns : goal.returns
returns c = lines_join
