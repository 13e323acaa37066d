-- Where the next run begins.
use Rattle.std.specs.Prelude.{◌≡◌, List, ◌++◌, length}
use Rattle.std.specs.FinMap as map
use Rattle.grid.specs.Standing.{Standing}
use Rattle.grid.specs.GridState.{stood}
use Rattle.chk_file.specs.World.{World}
use Rattle.gate_core.specs.Settings.{GatewaySettings}
use Rattle.gate_core.specs.Items.{Entry}
use Rattle.gate_core.specs.Runs.{world_after}
use Rattle.gate_core.specs.Uploaded.{IsLeftBy}
use Rattle.gate_core.specs.ConnectionState.{State}
use Rattle.gate_core.specs.Came.{Starts}
use Rattle.restarts.specs.Resumed.{IsEnd}

-- The items of earlier runs (`past`), those of this run that were carried out (`first`), and the end of x, at which the
-- crash came, leave a world, and a gateway over what the crash left, of which nothing was called yet, starts from it.
pub record Reopened (settings : GatewaySettings) (past first : List Entry) (opening : World) (x : Entry) (c : Standing) : Type 0 where
  pub last : List Entry
  pub end : IsEnd (world_after settings opening first) x last
  pub left : IsLeftBy settings (past ++ (first ++ last)) (world_after settings opening (first ++ last))
  pub starts : (g : State) → g.connections ≡ map.empty → length g.grid.stores ≡ g.settings.servers → stood g.grid ≡ c → Starts (world_after settings opening (first ++ last)) g
