use Rattle.std.proofs.Common.{ap, sym, ◌∙◌}
use Rattle.gate_core.specs.ConnectionState.{is_closed_in}
use Rattle.gate_core.proofs.Forgetting.{entry_found, no_entry, unheld_closed}
use Rattle.gate_core.proofs.Arrivals.{closed_came}
use Rattle.gate_core.proofs.gateway.Gateway.closed.Goals as goal

pub returns-in-Some-clause-held : goal.returns-in-Some-clause-held
returns-in-Some-clause-held g c =
    c.closed.ensures ∙ ap is_closed_in (sym (entry_found c.args.self.now.connections _ _ c.args.id (ap (λ s. s.connections) c.self.view_is) _ c.in-Some.ensures.value))

pub returns-in-Some-clause-came : goal.returns-in-Some-clause-came
returns-in-Some-clause-came g c = closed_came c.left_over.ensures.left_first c.args.self.now c.args.id _ (returns-in-Some-clause-held g c)

pub returns-in-None-clause-held : goal.returns-in-None-clause-held
returns-in-None-clause-held g c =
    c.contains.ensures ∙ unheld_closed c.args.self.now c.args.self.now c.args.id _ (no_entry c.args.self.now.connections _ _ c.args.id (ap (λ s. s.connections) c.self.view_is) c.in-None.ensures.value)

pub returns-in-None-clause-came : goal.returns-in-None-clause-came
returns-in-None-clause-came g c = closed_came c.left_over.ensures.left_first c.args.self.now c.args.id _ (returns-in-None-clause-held g c)
