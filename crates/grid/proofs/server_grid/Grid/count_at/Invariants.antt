use Rattle.std.proofs.Common.{◌≡◌, ◌<◌, ◌≤◌, ◌^◌, length}
use Rattle.grid.specs.GridState.{maps_of, IsHonest, NoneFailed}
use Rattle.grid.specs.Leaves.{Leaves, IsUnchanged}
use Rattle.grid.specs.Found.{entries_at}
use Rattle.grid.specs.Views.{StandStill, TellOn}
use Rattle.grid.proofs.server_grid.Grid.count_at.Given as goal

-- so many shares stand there at least, and no store failed
abbrev pub invariant-loop-at : goal.invariant-loop-at
invariant-loop-at g l = record {
  leaves : Leaves l.fn.self l.self;
  stamps : l.self.stamps ≡ l.fn.self.stamps;
  calm : NoneFailed l.fn.self l.self;
  unchanged : IsHonest l.fn.self → IsUnchanged l.fn.self l.self;
  stand_still : StandStill l.fn.self l.self;
  told : TellOn l.fn.self l.self;
  few : IsHonest l.fn.self → 0 < l.at → length (entries_at (maps_of l.fn.self) l.server) < 2 ^ 64;
  stand : IsHonest l.fn.self → l.at ≤ length (entries_at (maps_of l.fn.self) l.server);
}
