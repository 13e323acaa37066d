use Rattle.std.proofs.Common.{◌≡◌, ℕ, subst}
use Rattle.grid.specs.GridState.{GridState, held_at, size_at, IsHonest}
use Rattle.grid.proofs.EmptyStores.{held_is_size}
use Rattle.grid.proofs.server_grid.Grid.held_is_what_stands.Goals as goal

pub returns : goal.returns
returns g c =
    let store = g.S.Store in
    subst (λ (grid : GridState). IsHonest grid → (s : ℕ) → held_at grid s ≡ size_at grid s) c.self.view_is
    (held_is_size store.shares store.room store.held store.failures store.honest store.history g.met.S.Store.held_is c.self.inside.stores.items)
