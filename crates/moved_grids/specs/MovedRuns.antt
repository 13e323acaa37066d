-- A run's items as they are among another number of servers.
use Rattle.std.specs.Prelude.{◌≡◌, ◌⊎◌, ℕ, ◌==◌, List, [], ◌∷◌, ◌++◌, length, map, None, if◌then◌else◌}
use Rattle.std.specs.FinMap as finite
use Rattle.share_store.specs.Shares.{ShareKey}
use Rattle.grid.specs.RowOrder.{RowKey}
use Rattle.grid.specs.Standing.{Standing}
use Rattle.grid.specs.Placement.{server_of}
use Rattle.grid.specs.GridState.{stood}
use Rattle.chk_file.specs.Marks.{shown}
use Rattle.chk_file.specs.World.{World, empty}
use Rattle.gate_core.specs.Settings.{GatewaySettings}
use Rattle.gate_core.specs.Items.{Entry, Asked, Lost, Spoiled}
use Rattle.gate_core.specs.Runs.{world_after}
use Rattle.gate_core.specs.Uploaded.{IsLeftBy}
use Rattle.gate_core.specs.ConnectionState.{State}
use Rattle.gate_core.specs.Came.{Starts}

-- the same settings, with so many servers
abbrev pub with_servers : GatewaySettings → ℕ → GatewaySettings
with_servers settings count = record { k = settings.k; n = settings.n; secret = settings.secret; servers = count; pages = settings.pages; for_browsers = settings.for_browsers }

-- the operator's change of a share in its place among `old` servers, as one in its place among `new` ones; elsewhere none
-- stands, so a change there is none
abbrev pub moved_change : ℕ → ℕ → ℕ → ShareKey → (ℕ → Entry) → List Entry
moved_change old new server key change = if server == server_of old key.0 key.1 then change (server_of new key.0 key.1) ∷ [] else []

abbrev pub moved_item : ℕ → ℕ → Entry → List Entry
moved_item old new (Asked id secret item) = Asked id secret item ∷ []
moved_item old new (Lost server key) = moved_change old new server key (λ s. Lost s key)
moved_item old new (Spoiled server key place) = moved_change old new server key (λ s. Spoiled s key place)

abbrev pub moved_items : ℕ → ℕ → List Entry → List Entry
moved_items old new [] = []
moved_items old new (x ∷ more) = moved_item old new x ++ moved_items old new more

-- the world that the same items leave among so many servers
abbrev pub moved_world : GatewaySettings → ℕ → List Entry → World
moved_world settings count past = world_after (with_servers settings count) empty (moved_items settings.servers count past)

-- these shares lost by the operator, one after the other
abbrev pub lost_items : List RowKey → List Entry
lost_items places = map (λ p. Lost p.0 p.1) places

-- at each place stands what is to stand there, or nothing
abbrev pub IsPartOf : Standing → Standing → Type 0
IsPartOf whole c = (s : ℕ) (q : ShareKey) → (c s q ≡ None) ⊎ (c s q ≡ whole s q)

-- A run of the same items among so many servers, and then of losses, left this. What stands is what stands in the world
-- that it left, the same files are in it, and a gateway over what stands, of which nothing was called yet, starts from it.
pub record IsLeftMoved (settings : GatewaySettings) (count : ℕ) (past : List Entry) (w : World) (c : Standing) : Type 0 where
  pub missing : List RowKey
  pub world : World
  pub left : IsLeftBy (with_servers settings count) (moved_items settings.servers count past ++ lost_items missing) world
  pub stands : c ≡ shown world.marks
  pub files : world.files ≡ w.files
  pub starts : (g : State) → g.connections ≡ finite.empty → length g.grid.stores ≡ g.settings.servers → stood g.grid ≡ c → Starts world g

-- That world is left by a run, what stands is what stands in it, the same files are in it, and a gateway over what stands,
-- of which nothing was called yet, starts from it.
pub record MovedWorld (settings : GatewaySettings) (count : ℕ) (past : List Entry) (w : World) (c : Standing) : Type 0 where
  pub left : IsLeftBy (with_servers settings count) (moved_items settings.servers count past) (moved_world settings count past)
  pub stands : c ≡ shown (moved_world settings count past).marks
  pub files : (moved_world settings count past).files ≡ w.files
  pub starts : (g : State) → g.connections ≡ finite.empty → length g.grid.stores ≡ g.settings.servers → stood g.grid ≡ c → Starts (moved_world settings count past) g
