use Rattle.std.proofs.Common.{◌<◌, ℕ, List, None, slice_set, sym, subst}
use Rattle.std.proofs.lemmas.Result.{on_ok_weaker}
use Rattle.grid.specs.GridState.{failures_at}
use Rattle.share_store.specs.NumberedShares.{AllBut}
use Rattle.grid.specs.Found.{found_in}
use Rattle.grid.proofs.Calls.{CallsStore, grid_of, call_in, honest_there, entries_there, rose_after, leaves_looked, unchanged_looked}
use Rattle.share_store.proofs.Missing.{more_may_miss}
use Rattle.grid.proofs.Views.{tell_on_called, still_looked, seen_at}
use Rattle.grid.proofs.server_grid.Grid.places_at.Given.{Over}
use Rattle.grid.proofs.server_grid.Grid.places_at.Goals as goal

call : (g : Over) (c : goal.After-self-1 g) → CallsStore g.S.Store c.self.inside.stores.items c.self.inside.counts c.args.self.now c.args.server c.index_mut.result.now c.places_in.new.store
call g c = call_in g.S.Store c.self.inside.stores.items c.self.view_is c.self.inside.stores.ok.0 c.requires c.index_mut.ensures.value

pub returns-clause-leaves : goal.returns-clause-leaves
returns-clause-leaves g c = leaves_looked g.S.Store (call g c) c.places_in.ensures.looked g.met.S.Store.held_is

pub returns-clause-unchanged : goal.returns-clause-unchanged
returns-clause-unchanged g c = unchanged_looked g.S.Store (call g c) c.places_in.ensures.looked c.places_in.ensures.same_history

pub returns-clause-stand_still : goal.returns-clause-stand_still
returns-clause-stand_still g c = still_looked g.S.Store (call g c) c.places_in.ensures.looked

pub returns-clause-told : goal.returns-clause-told
returns-clause-told g c = tell_on_called g.S.Store (call g c) c.places_in.ensures.looked.still_honest c.places_in.ensures.told

pub returns-clause-found : goal.returns-clause-found
returns-clause-found g c all =
    let new = grid_of g.S.Store (slice_set c.self.inside.stores.items c.args.server c.places_in.new.store) c.self.inside.counts in
    let missed : ℕ × ℕ × List ℕ → Type 0 = λ f. failures_at c.args.self.now f.0 < failures_at new f.0 in
    on_ok_weaker c.places_in.result
    (λ found. (
      found.0,
      found.1,
      subst (λ es. AllBut missed (found_in c.args.server c.args.index es) found.0) (sym (entries_there (call g c)))
          (more_may_miss _ missed _ found.0 (λ f rose. rose_after (call g c) f.0 rose.0 rose.1) found.2),
    ))
    (c.places_in.ensures.found (honest_there (call g c) all))

pub returns-clause-seen : goal.returns-clause-seen
returns-clause-seen g c all =
    seen_at g.S.Store (call g c) c.args.index None all
    (tell_on_called g.S.Store (call g c) c.places_in.ensures.looked.still_honest c.places_in.ensures.told)
    c.places_in.result _ c.places_in.ensures.found c.places_in.ensures.seen
