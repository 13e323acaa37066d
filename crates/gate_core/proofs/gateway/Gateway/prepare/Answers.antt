use Rattle.std.proofs.Common.{sym, subst}
use Rattle.gate_core.specs.ConnectionState.{State}
use Rattle.gate_core.specs.Came.{Came}
use Rattle.gate_core.proofs.Arrivals.{unchanged_holds}
use Rattle.gate_core.proofs.Isolating.{isolates_still}
use Rattle.gate_core.proofs.gateway.Gateway.prepare.Goals as goal

pub returns-clause-came : goal.returns-clause-came
returns-clause-came g c opening events came =
    subst (λ (s : State). Came opening s events) (sym c.prepares.ensures.left)
    (c.came_goes_on.ensures.unchanged opening c.args.self.now events c.prepares.new.self.grid came c.prepares.ensures.leaves (λ all. unchanged_holds _ _ (c.prepares.ensures.unchanged all)))

pub returns-clause-isolated : goal.returns-clause-isolated
returns-clause-isolated g c = isolates_still c.came_goes_on.ensures.isolated c.args.self.now _ (returns-clause-came g c)
