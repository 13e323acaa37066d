-- What is seen of a grid while others change it.
use Rattle.std.specs.Prelude.{◌≡◌, ◌<◌, ℕ, List, ◌++◌, take, Some}
use Rattle.share_store.specs.Shares.{ShareKey}
use Rattle.grid.specs.Standing.{Standing}
use Rattle.grid.specs.Placement.{server_of}
use Rattle.chk_file.specs.Upload.{Upload, index}
use Rattle.chk_file.specs.Marks.{shown}
use Rattle.chk_file.specs.World.{World}
use Rattle.gate_core.specs.Settings.{GatewaySettings}
use Rattle.gate_core.specs.Items.{Entry}
use Rattle.gate_core.specs.Runs.{world_after}
use Rattle.gate_core.specs.Uploaded.{IsLeftBy}
use Rattle.restarts.specs.Mended.{AreEnds}
use Rattle.many_gates.specs.Changes.{Change, Put, Lose, Spoil, items_of_changes, all_changed}

-- Each place was looked at at a moment of its own, after some of the changes that were made meanwhile: there stood then
-- what was seen.
abbrev pub IsSeen : GatewaySettings → List Change → Standing → Standing → Type 0
IsSeen settings changes before seen = (s : ℕ) (q : ShareKey) → (k : ℕ) × (seen s q ≡ all_changed settings (take k changes) before s q)

-- What was seen a run leaves that goes on with ends of the items that were under way: each not begun, or done and then shares
-- that hadn't stood before it lost.
pub record SeenOf (settings : GatewaySettings) (past : List Entry) (w : World) (changes : List Change) (seen : Standing) : Type 0 where
  pub ends : List Entry
  pub are : AreEnds settings w (items_of_changes changes) ends
  pub left : IsLeftBy settings (past ++ ends) (world_after settings w ends)
  pub stands : seen ≡ shown (world_after settings w ends).marks

-- gateways made them, and not the operator
abbrev pub IsPut : Change → Type 0
IsPut (Put id secret item number) = Unit {0}
IsPut (Lose server key) = ⊥
IsPut (Spoil server key place) = ⊥

-- a share of each number of an upload stands at its server
abbrev pub AllStandIn : ℕ → Upload → Standing → Type 0
AllStandIn servers u c = (i : ℕ) → i < u.n → (bytes : List ℕ) × (c (server_of servers (index u) i) (index u, i) ≡ Some bytes)
