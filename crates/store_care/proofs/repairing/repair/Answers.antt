use Rattle.std.proofs.Common.{arith}
use Rattle.store_care.proofs.repairing.repair.Goals as goal

pub new-grid-requires-clause-some : goal.new-grid-requires-clause-some
new-grid-requires-clause-some g c = omega (arith, c.in_ok-stores.ensures, c.in_ok-first.ensures.1)

pub new-grid-requires-clause-few : goal.new-grid-requires-clause-few
new-grid-requires-clause-few g c = omega (arith, c.in_ok-stores.ensures, c.in_ok-first.ensures.2)
