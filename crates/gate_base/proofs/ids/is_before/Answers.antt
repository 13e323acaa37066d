use Rattle.std.proofs.Common.{◌∙◌, arith}
use Rattle.gate_base.proofs.Turns.{before_next, before_first}
use Rattle.gate_base.proofs.ids.is_before.Goals as goal

pub returns-in-Some : goal.returns-in-Some
returns-in-Some c = c.is_among.ensures ∙ before_next _ c.in-Some.last c.args.id (let is = c.in-Some.ensures in omega arith)

pub returns-in-None : goal.returns-in-None
returns-in-None c = before_first _ c.args.id c.in-None.ensures
