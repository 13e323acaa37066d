use Rattle.std.proofs.Common.{refl}
use Rattle.gate_core.proofs.Arrivals.{same_state}
use Rattle.gate_core.proofs.Forgetting.{nothing_held}
use Rattle.gate_core.proofs.gateway.Gateway.over.Goals as goal

pub returns : goal.returns
returns g c = same_state _ _ refl (nothing_held _ _ c.new.ensures.empty c.new-2.ensures) refl c.new-4.ensures
