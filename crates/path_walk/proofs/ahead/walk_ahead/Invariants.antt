use Rattle.grid.specs.GridState.{IsHonest}
use Rattle.grid.specs.Leaves.{Leaves, IsUnchanged}
use Rattle.grid.specs.Views.{AllTell, StandStill, TellOn}
use Rattle.chk_file.specs.Amid.{AreKeptSeen}
use Rattle.chk_file.specs.Cached.{IsCacheCurrent}
use Rattle.path_walk.proofs.ahead.walk_ahead.Given as goal

-- nothing that is stored changes
abbrev pub invariant-loop-name : goal.invariant-loop-name
invariant-loop-name g l = record {
  leaves : Leaves l.fn.grid l.grid;
  unchanged : IsHonest l.fn.grid → IsUnchanged l.fn.grid l.grid;
  stand_still : StandStill l.fn.grid l.grid;
  told : TellOn l.fn.grid l.grid;
  fresh : IsCacheCurrent l.fn.cache l.fn.grid → IsCacheCurrent l.cache l.grid;
  kept_seen : AllTell l.fn.grid → AreKeptSeen l.fn.cache l.cache l.fn.grid l.grid;
}
