use Rattle.std.proofs.Common.{◌≡◌, length}
use Rattle.grid.specs.GridState.{maps_of, IsHonest, NoneFailed}
use Rattle.grid.specs.Leaves.{Leaves, IsUnchanged}
use Rattle.grid.specs.Rows.{rows_below}
use Rattle.grid.specs.Views.{StandStill, TellOn}
use Rattle.grid.proofs.server_grid.Grid.count_shares.Given as goal

-- the rows of the servers so far were counted, and no store failed
abbrev pub invariant-loop-server : goal.invariant-loop-server
invariant-loop-server g l = record {
  leaves : Leaves l.fn.self l.self;
  stamps : l.self.stamps ≡ l.fn.self.stamps;
  calm : NoneFailed l.fn.self l.self;
  unchanged : IsHonest l.fn.self → IsUnchanged l.fn.self l.self;
  stand_still : StandStill l.fn.self l.self;
  told : TellOn l.fn.self l.self;
  counted : IsHonest l.fn.self → l.count ≡ length (rows_below (maps_of l.fn.self) l.server);
}
