use Rattle.std.proofs.Common.{◌≡◌, ◌<◌, ℕ, List, map, None}
use Rattle.grid.specs.GridState.{maps_of, failures_at, IsHonest}
use Rattle.grid.specs.Leaves.{Leaves, IsUnchanged}
use Rattle.share_store.specs.NumberedShares.{AllBut}
use Rattle.grid.specs.Found.{found_below, found_place}
use Rattle.grid.specs.Views.{AllTell, StandStill, TellOn}
use Rattle.grid.proofs.Views.{SeesBelow}
use Rattle.grid.proofs.server_grid.Grid.places.Given as goal

-- the places at the servers so far are known, but for failures
abbrev pub invariant-loop-server : goal.invariant-loop-server
invariant-loop-server g l = record {
  leaves : Leaves l.fn.self l.self;
  stamps : l.self.stamps ≡ l.fn.self.stamps;
  unchanged : IsHonest l.fn.self → IsUnchanged l.fn.self l.self;
  stand_still : StandStill l.fn.self l.self;
  told : TellOn l.fn.self l.self;
  found : IsHonest l.fn.self → (given : List (ℕ × ℕ × List ℕ)) × (l.places.items ≡ map found_place given)
      × AllBut (λ f. failures_at l.fn.self f.0 < failures_at l.self f.0) (found_below (maps_of l.fn.self) l.index l.server) given;
  seen : AllTell l.fn.self → (given : List (ℕ × ℕ × List ℕ)) × (l.places.items ≡ map found_place given) × SeesBelow l.index None l.fn.self l.self l.server given;
}
