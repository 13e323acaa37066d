use Rattle.std.proofs.Common.{ap, ◌∙◌}
use Rattle.grid.specs.GridState.{stood}
use Rattle.gate_core.specs.ConnectionState.{State}
use Rattle.gate_core.proofs.Isolating.{isolates_first}
use Rattle.gate_core.proofs.gateway.Gateway.for_browsers.Goals as goal

pub returns-clause-came : goal.returns-clause-came
returns-clause-came g c w stand =
    let is = c.browsing.ensures.held in
    c.came_begins.ensures w c.browsing.result (ap (λ (s : State). s.connections) is) c.browsing.ensures.servers (ap (λ (s : State). stood s.grid) is ∙ stand)

pub returns-clause-isolated : goal.returns-clause-isolated
returns-clause-isolated g c = isolates_first c.browsing.result (ap (λ (s : State). s.connections) c.browsing.ensures.held)
