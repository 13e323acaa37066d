use Rattle.std.proofs.Common.{ap, ◌∙◌}
use Rattle.grid.specs.GridState.{stood}
use Rattle.gate_core.specs.ConnectionState.{State}
use Rattle.gate_core.proofs.Isolating.{isolates_first}
use Rattle.gate_core.proofs.gateway.Gateway.with_pages.Goals as goal

pub returns-clause-came : goal.returns-clause-came
returns-clause-came g c w stand =
    let is = c.holding.ensures.held in
    c.came_begins.ensures w c.holding.result (ap (λ (s : State). s.connections) is) c.holding.ensures.servers (ap (λ (s : State). stood s.grid) is ∙ stand)

pub returns-clause-isolated : goal.returns-clause-isolated
returns-clause-isolated g c = isolates_first c.holding.result (ap (λ (s : State). s.connections) c.holding.ensures.held)
