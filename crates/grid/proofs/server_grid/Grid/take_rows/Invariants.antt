use Rattle.std.proofs.Common.{◌≡◌, ◌-◌, None, IfSome, length, []}
use Rattle.std.specs.Option.{option_map}
use Rattle.grid.specs.GridState.{maps_of, IsHonest, NoneFailed}
use Rattle.grid.specs.Leaves.{Leaves}
use Rattle.grid.specs.Rows.{rows_of}
use Rattle.grid.specs.Layout.{front}
use Rattle.grid.specs.ImageHeads.{head_key}
use Rattle.grid.specs.ImageReading.{rows_said}
use Rattle.grid.proofs.ImageRuns.{SoFar}
use Rattle.grid.specs.Views.{TellOn}
use Rattle.grid.proofs.server_grid.Grid.take_rows.Given as goal

-- the rows so far stand, and no store failed
abbrev pub invariant-loop-done : goal.invariant-loop-done
invariant-loop-done g l = record {
  leaves : Leaves l.fn.self l.self;
  told : TellOn l.fn.self l.self;
  calm : NoneFailed l.fn.self l.self;
  so_far : IfSome (g.R.Read.remaining l.fn.reader) (λ bytes. SoFar (rows_said l.layout l.count (length l.fn.self.stores) None (front l.layout) bytes) l.layout (l.count - l.done) (length l.fn.self.stores)
      (option_map head_key l.last) l.place (g.R.Read.remaining l.reader)
      (IsHonest l.fn.self × (rows_of (maps_of l.fn.self) ≡ []))
      (rows_of (maps_of l.self)));
}
