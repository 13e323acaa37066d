use Rattle.grid.proofs.Calls.{CallsStore, call_in, leaves_looked, unchanged_looked}
use Rattle.grid.proofs.Views.{tell_on_called, still_looked}
use Rattle.grid.proofs.server_grid.Grid.prefetch_at.Given.{Over}
use Rattle.grid.proofs.server_grid.Grid.prefetch_at.Goals as goal

call : (g : Over) (c : goal.After-self-1 g) → CallsStore g.S.Store c.self.inside.stores.items c.self.inside.counts c.args.self.now c.args.server c.index_mut.result.now c.prefetch.new.self
call g c = call_in g.S.Store c.self.inside.stores.items c.self.view_is c.self.inside.stores.ok.0 c.requires c.index_mut.ensures.value

pub returns-clause-leaves : goal.returns-clause-leaves
returns-clause-leaves g c = leaves_looked g.S.Store (call g c) c.prefetch.ensures.looked g.met.S.Store.held_is

pub returns-clause-unchanged : goal.returns-clause-unchanged
returns-clause-unchanged g c = unchanged_looked g.S.Store (call g c) c.prefetch.ensures.looked c.prefetch.ensures.same_history

pub returns-clause-stand_still : goal.returns-clause-stand_still
returns-clause-stand_still g c = still_looked g.S.Store (call g c) c.prefetch.ensures.looked

pub returns-clause-told : goal.returns-clause-told
returns-clause-told g c = tell_on_called g.S.Store (call g c) c.prefetch.ensures.looked.still_honest c.prefetch.ensures.told
