-- What the stores are told of an item, and what a crash then leaves in them.
use Rattle.std.specs.Prelude.{◌≡◌, ◌⊎◌, ◌<◌, ℕ, Bool, List, [], ◌∷◌, length, slice_get, Option, Some, None}
use Rattle.std.specs.List.{AllByRecursion}
use Rattle.std.specs.Rc.{rc_slice_items}
use Rattle.share_store.specs.Shares.{Shares}
use Rattle.kept_store.specs.Calls.{MayBeLeft}
use Rattle.kept_store.specs.declared.calls.Call.{Call}
use Rattle.kept_store.specs.declared.calls.Call.TheVariants.{Put, Lose, Toggle}
use Rattle.grid.specs.Placement.{server_of}
use Rattle.chk_file.specs.Upload.{Upload, index, share_of}
use Rattle.gate_core.specs.Settings.{GatewaySettings, under}
use Rattle.gate_core.specs.Items.{Entry, Asked, Lost, Spoiled}
use Rattle.gate_core.specs.Runs.{upload_by}

-- a put of a share of the upload, at the server to which that share goes
abbrev pub IsPutOf : ℕ → ℕ → Upload → Call → Type 0
IsPutOf servers s u (Put si number bytes) = (si ≡ index u) × ((number < u.n) × ((server_of servers (index u) number ≡ s) × (rc_slice_items bytes ≡ share_of u number)))
IsPutOf servers s u (Lose si number) = ⊥
IsPutOf servers s u (Toggle si number place) = ⊥

-- puts of shares of the upload, in any order, where there is one
abbrev pub ArePutsOf : ℕ → ℕ → Option Upload → List Call → Type 0
ArePutsOf servers s None calls = calls ≡ []
ArePutsOf servers s (Some u) calls = AllByRecursion (IsPutOf servers s u) calls

-- what the store at server s is told of an item: the shares of its upload that go there, or the operator's change
abbrev pub AreCallsOf : GatewaySettings → ℕ → Entry → List Call → Type 0
AreCallsOf settings s (Asked id secret item) calls = ArePutsOf settings.servers s (upload_by (under settings secret) item) calls
AreCallsOf settings s (Lost server key) calls = (calls ≡ []) ⊎ ((s ≡ server) × (calls ≡ Lose key.0 key.1 ∷ []))
AreCallsOf settings s (Spoiled server key place) calls = (calls ≡ []) ⊎ ((s ≡ server) × (calls ≡ Toggle key.0 key.1 place ∷ []))

-- In a store that has m, told of an item, a crash leaves c: what stood after some of the calls, as they were answered, and
-- the next one done or not.
abbrev pub IsLeftAt : GatewaySettings → ℕ → Entry → Shares → Shares → Type 0
IsLeftAt settings s x m c = (calls : List Call) × ((answers : List Bool) × (AreCallsOf settings s x calls × MayBeLeft calls answers m c))

-- the same at every server, each at a call of its own
pub record AreLeft (settings : GatewaySettings) (x : Entry) (maps left : List Shares) : Type 0 where
  pub servers : length left ≡ length maps
  pub each : (s : ℕ) (m c : Shares) → slice_get maps s ≡ Some m → slice_get left s ≡ Some c → IsLeftAt settings s x m c
