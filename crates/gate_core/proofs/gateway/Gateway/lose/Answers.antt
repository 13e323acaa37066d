use Rattle.std.proofs.Common.{subst}
use Rattle.grid.specs.GridState.{stood, IsHonest}
use Rattle.grid.specs.Changes.{without}
use Rattle.grid.specs.Histories.{TellsOfChange}
use Rattle.gate_core.specs.ConnectionState.{State}
use Rattle.chk_file.proofs.Freshness.{fresh_stays}
use Rattle.gate_core.specs.Forgotten.{with_gone}
use Rattle.gate_core.proofs.Arrivals.{lost_came, refused_came}
use Rattle.std.proofs.lemmas.Result.{on_ok_weaker, on_err_weaker}
use Rattle.gate_core.proofs.Isolating.{isolates_after, isolates_still}
use Rattle.gate_core.proofs.gateway.Gateway.lose.Goals as goal

pub returns-clause-came : goal.returns-clause-came
returns-clause-came g c = lost_came c.self.inside.parameters (with_gone c.self.inside.connections.entries c.self.inside.forgotten) c.self.inside.tally c.self.inside.grid c.lose.new.self c.args.self.now c.self.view_is c.lose.ensures.leaves c.came_goes_on.ensures.lost c.args.server (c.args.index, c.args.number) c.lose.result c.lose.ensures.ok

pub returns-clause-refused : goal.returns-clause-refused
returns-clause-refused g c = refused_came c.self.inside.parameters (with_gone c.self.inside.connections.entries c.self.inside.forgotten) c.self.inside.tally c.self.inside.grid c.lose.new.self c.args.self.now c.self.view_is c.lose.ensures.leaves c.came_goes_on.ensures.unchanged c.lose.result c.lose.ensures.err

pub returns-clause-isolated : goal.returns-clause-isolated
returns-clause-isolated g c = on_ok_weaker c.lose.result (isolates_after c.came_goes_on.ensures.isolated c.args.self.now _ _) (returns-clause-came g c)

pub returns-clause-isolated_still : goal.returns-clause-isolated_still
returns-clause-isolated_still g c = on_err_weaker c.lose.result (isolates_still c.came_goes_on.ensures.isolated c.args.self.now _) (returns-clause-refused g c)

pub invariant_of-self : goal.invariant_of-self
invariant_of-self g c = fresh_stays c.self.inside.cache c.self.inside.grid c.lose.new.self c.lose.ensures.leaves c.lose.ensures.stamped c.self.invariant

pub returns-clause-history : goal.returns-clause-history
returns-clause-history g c = subst (λ (s : State). IsHonest s.grid → TellsOfChange (without c.args.server (c.args.index, c.args.number) (stood s.grid)) s.grid c.lose.new.self) c.self.view_is c.lose.ensures.history
