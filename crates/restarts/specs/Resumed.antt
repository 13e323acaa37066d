-- The run that leaves what a crash left.
use Rattle.std.specs.Prelude.{◌≡◌, ◌⊎◌, List, [], ◌∷◌, None}
use Rattle.std.specs.List.{AllByRecursion}
use Rattle.grid.specs.Standing.{Standing}
use Rattle.chk_file.specs.Marks.{shown}
use Rattle.chk_file.specs.World.{World}
use Rattle.gate_core.specs.Settings.{GatewaySettings}
use Rattle.gate_core.specs.Items.{Entry}
use Rattle.gate_core.specs.Runs.{world_after}
use Rattle.gate_core.specs.Uploaded.{IsProper}
use Rattle.restarts.specs.CutOff.{SharePlace, losses}

-- How the item ended at which the crash came: it was not begun, or it was done and then shares were lost, none of which
-- had stood before it.
abbrev pub IsEnd : World → Entry → List Entry → Type 0
IsEnd w x last = (last ≡ []) ⊎ ((lost : List SharePlace) × (last ≡ x ∷ losses lost) × AllByRecursion (λ p. shown w.marks p.0 p.1 ≡ None) lost)

-- After items that were answered, a crash came at item x and left c standing: a run of them and of that end leaves it.
pub record Resumed (settings : GatewaySettings) (w : World) (x : Entry) (c : Standing) : Type 0 where
  pub last : List Entry
  pub end : IsEnd w x last
  pub stands : c ≡ shown (world_after settings w last).marks
  pub proper : IsProper settings (x ∷ []) → IsProper settings last
