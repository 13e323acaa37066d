use Rattle.chk_file.proofs.Freshness.{fresh_stays}
use Rattle.grid.proofs.Turns.{stamped_unchanged}
use Rattle.gate_core.specs.Forgotten.{with_gone}
use Rattle.gate_core.proofs.Arrivals.{unchanged_came, unchanged_holds}
use Rattle.gate_core.proofs.Isolating.{isolates_still}
use Rattle.gate_core.proofs.gateway.Gateway.image.Goals as goal

pub returns-clause-came : goal.returns-clause-came
returns-clause-came g c = unchanged_came c.self.inside.parameters (with_gone c.self.inside.connections.entries c.self.inside.forgotten) c.self.inside.tally c.self.inside.grid c.write_image.new.self c.args.self.now c.self.view_is c.write_image.ensures.leaves c.came_goes_on.ensures.unchanged (λ all. unchanged_holds _ _ (c.write_image.ensures.unchanged all))

pub returns-clause-isolated : goal.returns-clause-isolated
returns-clause-isolated g c = isolates_still c.came_goes_on.ensures.isolated c.args.self.now _ (returns-clause-came g c)

pub invariant_of-self : goal.invariant_of-self
invariant_of-self g c = fresh_stays c.self.inside.cache c.self.inside.grid c.write_image.new.self c.write_image.ensures.leaves (stamped_unchanged c.self.inside.grid c.write_image.new.self c.write_image.ensures.stamps c.write_image.ensures.unchanged) c.self.invariant
