use Rattle.std.proofs.lemmas.Result.{on_ok_weaker}
use Rattle.gate_core.proofs.Forgetting.{forgotten_others, forgotten_came}
use Rattle.gate_core.proofs.Isolating.{isolates_after}
use Rattle.gate_core.proofs.gateway.Gateway.forget.Goals as goal

pub returns-clause-others : goal.returns-clause-others
returns-clause-others g c = forgotten_others c.args.self.now _ c.args.id c.let_go.result c.let_go.ensures.answer c.let_go.ensures.left c.let_go.ensures.err

pub returns-clause-came : goal.returns-clause-came
returns-clause-came g c = forgotten_came c.args.self.now _ c.args.id c.let_go.result c.let_go.ensures.answer c.let_go.ensures.left c.came_goes_on.ensures.taken

pub returns-clause-isolated : goal.returns-clause-isolated
returns-clause-isolated g c = on_ok_weaker c.let_go.result (isolates_after c.came_goes_on.ensures.isolated c.args.self.now _ _) (returns-clause-came g c)
