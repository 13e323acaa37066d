use Rattle.std.proofs.Common.{refl}
use Rattle.serde_json.proofs.OnLiterals.{serde_json_on_literals}
use Rattle.json_tree.proofs.laws.small_texts_are_built.Goals as goal

pub returns-clause-keys : goal.returns-clause-keys
unfolding serde_json_on_literals
returns-clause-keys c = refl

pub returns-clause-levels : goal.returns-clause-levels
unfolding serde_json_on_literals
returns-clause-levels c = refl

pub returns-clause-order : goal.returns-clause-order
unfolding serde_json_on_literals
returns-clause-order c = refl
