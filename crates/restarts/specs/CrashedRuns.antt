-- Runs of a gateway, one after the other, each of which a crash ended, and what callers were told in them.
use Rattle.std.specs.Prelude.{◌≡◌, ℕ, List, [], ◌∷◌, ◌++◌}
use Rattle.std.specs.List.{AllByRecursion}
use Rattle.chk_file.specs.World.{World}
use Rattle.chk_file.specs.Look.{by_fit}
use Rattle.gate_core.specs.Settings.{GatewaySettings, under}
use Rattle.gate_core.specs.Events.{Event}
use Rattle.gate_core.specs.Items.{Entry, items}
use Rattle.gate_core.specs.Runs.{world_after, said_by}
use Rattle.gate_core.specs.Uploaded.{IsProper}
use Rattle.gate_core.specs.Rooms.{Rooms}
use Rattle.gate_core.specs.ConnectionState.{State, waiting}
use Rattle.gate_core.specs.Came.{Came}
use Rattle.restarts.specs.Mended.{AreEnds}

-- A run that a crash ended: its calls that were answered, what the gateway held after them, the items of the call under way,
-- and how these ended.
pub record CrashedRun : Type 0 where
  pub events : List Event
  pub gateway : State
  pub asked : List Entry
  pub ends : List Entry

-- its items, as one run that goes on
abbrev pub items_in : CrashedRun → List Entry
items_in life = items life.events ++ life.ends

-- those of several runs, one after the other
abbrev pub items_of : List CrashedRun → List Entry
items_of [] = []
items_of (life ∷ lives) = items_in life ++ items_of lives

-- The run began where this stood: with these k, n and servers, under any secret. What the call under way uploads are bytes.
pub record IsCrashedRun (settings : GatewaySettings) (w : World) (life : CrashedRun) : Type 0 where
  pub same : life.gateway.settings ≡ under settings life.gateway.settings.secret
  pub rooms : Rooms
  pub came : Came (record { world = w; rooms = rooms }) life.gateway life.events
  pub end : AreEnds settings (world_after settings w (items life.events)) life.asked life.ends
  pub proper : AllByRecursion (λ x. IsProper settings (x ∷ [])) life.asked

-- each run began where the one before it, and the crash, left off
abbrev pub AreLived : GatewaySettings → World → List CrashedRun → Type 0
AreLived settings w [] = Unit {0}
AreLived settings w (life ∷ lives) = IsCrashedRun settings w life × AreLived settings (world_after settings w (items_in life)) lives

-- What a caller didn't get at the crash: what waited for it, and the answers of the call under way.
abbrev pub unheard : GatewaySettings → ℕ → World → CrashedRun → List ℕ
unheard settings caller w life = waiting life.gateway caller ++ said_by by_fit settings caller (world_after settings w (items life.events)) life.ends

-- After these runs there is a gateway of which these calls were made, and which began where the last of them left off.
pub record IsHistory (settings : GatewaySettings) (w : World) (lives : List CrashedRun) (g : State) (events : List Event) : Type 0 where
  pub lived : AreLived settings w lives
  pub same : g.settings ≡ under settings g.settings.secret
  pub rooms : Rooms
  pub came : Came (record { world = world_after settings w (items_of lives); rooms = rooms }) g events

-- a crash in a call that these items were asked for in ended a run, and the next one begins with this gateway
pub record Restarted (settings : GatewaySettings) (w : World) (lives : List CrashedRun) (g : State) (events : List Event) (asked : List Entry) (h : State) : Type 0 where
  pub ends : List Entry
  pub history : IsHistory settings w (lives ++ record { events = events; gateway = g; asked = asked; ends = ends } ∷ []) h []
