use Rattle.std.proofs.Common.{ap}
use Rattle.gate_core.proofs.Forgetting.{entry_found, no_entry, unheld_waits}
use Rattle.gate_core.proofs.Arrivals.{waiting_some, waiting_none}
use Rattle.gate_core.proofs.gateway.Gateway.waiting.Goals as goal

pub returns-in-Some : goal.returns-in-Some
returns-in-Some g c =
    let found = entry_found c.args.self.now.connections _ _ c.args.id (ap (λ s. s.connections) c.self.view_is) _ c.in-Some.ensures.value in
    waiting_some c.args.self.now c.args.id _ _ found c.is_empty.ensures

pub returns-in-None : goal.returns-in-None
returns-in-None g c =
    waiting_none c.args.self.now c.args.id
    (unheld_waits c.args.self.now c.args.self.now c.args.id _ (no_entry c.args.self.now.connections _ _ c.args.id (ap (λ s. s.connections) c.self.view_is) c.in-None.ensures.value))
