-- Changes of a grid that many gateways share: each is one command of one server.
use Rattle.std.specs.Prelude.{ℕ, List, [], ◌∷◌, Option, Some, None, nat_lt, ◌&&◌, ◌==◌, if◌then◌else◌, unwrap_or, map}
use Rattle.std.specs.Ordering.{eq_by_cmp}
use Rattle.http_edge.specs.declared.item.Item.{Item}
use Rattle.share_store.specs.Shares.{ShareKey, key_cmp}
use Rattle.grid.specs.Standing.{Standing}
use Rattle.grid.specs.Placement.{server_of}
use Rattle.grid.specs.Changes.{without, spoiled}
use Rattle.chk_file.specs.Upload.{Upload, index, share_of}
use Rattle.gate_core.specs.Settings.{GatewaySettings, under}
use Rattle.gate_core.specs.Items.{Entry, Asked, Lost, Spoiled}
use Rattle.gate_core.specs.Runs.{upload_by}

-- A share of the upload that an item asks for is put where none stands, by whatever gateway the item came to; or the
-- operator loses a share, or spoils one.
pub data Change : Type 0 where
  Put : (id : ℕ) → (secret : List ℕ) → (item : Item) → (number : ℕ) → Change
  Lose : (server : ℕ) → (key : ShareKey) → Change
  Spoil : (server : ℕ) → (key : ShareKey) → (place : ℕ) → Change

-- the item of which it is a part
abbrev pub item_of_change : Change → Entry
item_of_change (Put id secret item number) = Asked id secret item
item_of_change (Lose server key) = Lost server key
item_of_change (Spoil server key place) = Spoiled server key place

abbrev pub items_of_changes : List Change → List Entry
items_of_changes changes = map item_of_change changes

-- with a share of an upload put at its server, where none stood
abbrev pub with_one_share : ℕ → Option Upload → ℕ → Standing → Standing
with_one_share servers None number before s q = before s q
with_one_share servers (Some u) number before s q =
    if nat_lt number u.n && (s == server_of servers (index u) number && eq_by_cmp key_cmp q (index u, number))
    then Some (unwrap_or (before s q) (share_of u number))
    else before s q

-- what stands after a change
abbrev pub changed : GatewaySettings → Change → Standing → Standing
changed settings (Put id secret item number) before = with_one_share settings.servers (upload_by (under settings secret) item) number before
changed settings (Lose server key) before = without server key before
changed settings (Spoil server key place) before = spoiled server key place before

-- and after several, one after the other, whoever made them
abbrev pub all_changed : GatewaySettings → List Change → Standing → Standing
all_changed settings [] before = before
all_changed settings (x ∷ changes) before = all_changed settings changes (changed settings x before)
