use Rattle.std.proofs.Common.{◌≡◌, ◌<◌, ◌^◌, List, length, map, take}
use Rattle.grid.specs.GridState.{maps_of, IsHonest, NoneFailed}
use Rattle.grid.specs.Leaves.{Leaves, IsUnchanged}
use Rattle.grid.specs.Found.{entries_at}
use Rattle.grid.specs.Rows.{Row}
use Rattle.grid.specs.RowsWritten.{AreWritten}
use Rattle.grid.specs.Views.{StandStill, TellOn}
use Rattle.grid.proofs.server_grid.Grid.write_server.Given as goal

-- rows were written, over honest stores those of the first shares, and no store failed
abbrev pub invariant-loop-at : goal.invariant-loop-at
invariant-loop-at g l = record {
  leaves : Leaves l.fn.self l.self;
  stamps : l.self.stamps ≡ l.fn.self.stamps;
  calm : NoneFailed l.fn.self l.self;
  unchanged : IsHonest l.fn.self → IsUnchanged l.fn.self l.self;
  stand_still : StandStill l.fn.self l.self;
  told : TellOn l.fn.self l.self;
  few : IsHonest l.fn.self → 0 < l.at → length (entries_at (maps_of l.fn.self) l.server) < 2 ^ 64;
  done : (rows : List Row) × AreWritten l.fn.progress l.progress (g.W.Write.contents l.fn.writer) (g.W.Write.contents l.writer) rows
      × (IsHonest l.fn.self → rows ≡ map (λ e. (l.server, e)) (take l.at (entries_at (maps_of l.fn.self) l.server)));
}
