use Rattle.gate_tasks.proofs.Usage.{wrong_asks_nothing, wrong_is_decided}
use Rattle.gate_tasks.proofs.laws.usage_laws.Goals as goal

pub returns-clause-nothing : goal.returns-clause-nothing
returns-clause-nothing c = λ words fault task wrong asks. wrong_asks_nothing words fault task wrong asks

pub returns-clause-decided : goal.returns-clause-decided
returns-clause-decided c = wrong_is_decided
