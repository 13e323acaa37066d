-- Runs in which stores failed, or memory ran out: items that were refused, and what a restart makes of them.
use Rattle.std.specs.Prelude.{◌≡◌, List, [], ◌∷◌, ◌++◌, length}
use Rattle.std.specs.FinMap as map
use Rattle.grid.specs.Standing.{Standing}
use Rattle.grid.specs.GridState.{stood}
use Rattle.chk_file.specs.Marks.{shown}
use Rattle.chk_file.specs.World.{World}
use Rattle.gate_core.specs.Settings.{GatewaySettings}
use Rattle.gate_core.specs.Items.{Entry}
use Rattle.gate_core.specs.Runs.{world_after}
use Rattle.gate_core.specs.Uploaded.{IsLeftBy}
use Rattle.gate_core.specs.ConnectionState.{State}
use Rattle.gate_core.specs.Came.{Starts}
use Rattle.restarts.specs.CutOff.{IsCutOff}
use Rattle.restarts.specs.Resumed.{IsEnd}

-- From c to d, each item was cut off, done or not begun: after each there stands at each place what stood before it, or
-- what stands after it.
abbrev pub AreCutOff : GatewaySettings → Standing → List Entry → Standing → Type 0
AreCutOff settings c [] d = d ≡ c
AreCutOff settings c (x ∷ entries) d = (e : Standing) × (((w : World) → shown w.marks ≡ c → IsCutOff settings w x e) × AreCutOff settings e entries d)

-- these are the ends of the items, one after the other
abbrev pub AreEnds : GatewaySettings → World → List Entry → List Entry → Type 0
AreEnds settings w [] ends = ends ≡ []
AreEnds settings w (x ∷ entries) ends =
    (last : List Entry) × ((more : List Entry) × ((ends ≡ last ++ more) × (IsEnd w x last × AreEnds settings (world_after settings w last) entries more)))

-- A run of the ends leaves what stands, and a gateway over it, of which nothing was called yet, starts from its world.
pub record Mended (settings : GatewaySettings) (past : List Entry) (opening : World) (entries : List Entry) (d : Standing) : Type 0 where
  pub ends : List Entry
  pub are : AreEnds settings opening entries ends
  pub left : IsLeftBy settings (past ++ ends) (world_after settings opening ends)
  pub starts : (g : State) → g.connections ≡ map.empty → length g.grid.stores ≡ g.settings.servers → stood g.grid ≡ d → Starts (world_after settings opening ends) g
