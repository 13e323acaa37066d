-- Where the shares of an upload stand.
use Rattle.std.specs.Prelude.{◌≡◌, ◌<◌, ℕ, length, Some, unwrap_or}
use Rattle.grid.specs.GridState.{GridState, stood}
use Rattle.grid.specs.Placement.{server_of}
use Rattle.grid.specs.Views.{SomeStood}
use Rattle.chk_file.specs.Upload.{Upload, index, share_of}

-- of each number one stands at its server: the one that stood there, or else the upload's own
pub record AllStand (u : Upload) (old new : GridState) : Type 0 where
  pub each : (i : ℕ) → i < u.n → stood new (server_of (length old.stores) (index u) i) (index u, i)
      ≡ Some (unwrap_or (stood old (server_of (length old.stores) (index u) i) (index u, i)) (share_of u i))

-- of each number one stood at its server at some moment of a call
abbrev pub AllStoodAmid : Upload → GridState → GridState → Type 0
AllStoodAmid u old new = (i : ℕ) → i < u.n → SomeStood old new (server_of (length old.stores) (index u) i) (index u, i)
