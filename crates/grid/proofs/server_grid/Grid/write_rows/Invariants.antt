use Rattle.std.proofs.Common.{◌≡◌, List}
use Rattle.grid.specs.GridState.{maps_of, IsHonest, NoneFailed}
use Rattle.grid.specs.Leaves.{Leaves, IsUnchanged}
use Rattle.grid.specs.Rows.{Row, rows_below}
use Rattle.grid.specs.RowsWritten.{AreWritten}
use Rattle.grid.specs.Views.{StandStill, TellOn}
use Rattle.grid.proofs.server_grid.Grid.write_rows.Given as goal

-- rows were written, over honest stores those of the servers so far, and no store failed
abbrev pub invariant-loop-server : goal.invariant-loop-server
invariant-loop-server g l = record {
  leaves : Leaves l.fn.self l.self;
  stamps : l.self.stamps ≡ l.fn.self.stamps;
  calm : NoneFailed l.fn.self l.self;
  unchanged : IsHonest l.fn.self → IsUnchanged l.fn.self l.self;
  stand_still : StandStill l.fn.self l.self;
  told : TellOn l.fn.self l.self;
  done : (rows : List Row) × AreWritten l.fn.progress l.progress (g.W.Write.contents l.fn.writer) (g.W.Write.contents l.writer) rows × (IsHonest l.fn.self → rows ≡ rows_below (maps_of l.fn.self) l.server);
}
