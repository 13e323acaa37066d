use Rattle.std.proofs.Common.{length, ◌∙◌, ap, sym}
use Rattle.gate_core.specs.ConnectionState.{State}
use Rattle.gate_core.proofs.Isolating.{isolates_first}
use Rattle.gate_core.proofs.gateway.Gateway.resume.Goals as goal

pub returns-in-Ok-over-clause-came : goal.returns-in-Ok-over-clause-came
returns-in-Ok-over-clause-came g c w stand honest =
    let is = c.in-Ok-over.ensures in
    c.came_begins.ensures w c.in-Ok-over.gateway (ap (λ (s : State). s.connections) is)
    (ap (λ (s : State). length s.grid.stores) is ∙ sym (ap (λ (s : State). s.settings.servers) is)) stand honest

pub returns-in-Ok-over-clause-isolated : goal.returns-in-Ok-over-clause-isolated
returns-in-Ok-over-clause-isolated g c = isolates_first c.in-Ok-over.gateway (ap (λ (s : State). s.connections) c.in-Ok-over.ensures)
