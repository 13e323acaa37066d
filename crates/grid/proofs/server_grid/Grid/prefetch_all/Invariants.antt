use Rattle.std.proofs.Common.{◌≡◌}
use Rattle.grid.specs.GridState.{IsHonest}
use Rattle.grid.specs.Leaves.{Leaves, IsUnchanged}
use Rattle.grid.specs.Views.{StandStill, TellOn}
use Rattle.grid.proofs.server_grid.Grid.prefetch_all.Given as goal

-- nothing of the grid changed but counts of failures
abbrev pub invariant-loop-server : goal.invariant-loop-server
invariant-loop-server g l = record {
  leaves : Leaves l.fn.self l.self;
  stamps : l.self.stamps ≡ l.fn.self.stamps;
  unchanged : IsHonest l.fn.self → IsUnchanged l.fn.self l.self;
  stand_still : StandStill l.fn.self l.self;
  told : TellOn l.fn.self l.self;
}
