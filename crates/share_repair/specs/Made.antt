-- What a repair puts into a grid over honest stores.
use Rattle.std.specs.Prelude.{◌≡◌, ◌⊎◌, ℕ, ◌<◌, List, Some, length, All, slice_get}
use Rattle.share_codec.specs.Shares.{share}
use Rattle.share_store.specs.Shares.{ShareKey}
use Rattle.grid.specs.GridState.{GridState, stood}
use Rattle.grid.specs.Placement.{server_of}
use Rattle.share_repair.specs.Files.{FileLabel, Numbered, AreGivenOf}

-- a string stood under this storage index and number, at whatever server
abbrev pub StoodAnywhere : GridState → List ℕ → Numbered → Type 0
StoodAnywhere grid index g = (server : ℕ) × (stood grid server (index, g.0) ≡ Some g.1)

-- it is the share of this number of a file of which k shares stood under this storage index, which determine it
pub record IsDetermined (grid : GridState) (index : List ℕ) (number : ℕ) (s : List ℕ) : Type 0 where
  pub label : FileLabel
  pub crypttext : List ℕ
  pub given : List Numbered
  pub origin : AreGivenOf label crypttext given
  pub stands : All (StoodAnywhere grid index) given
  pub below : number < label.params.n
  pub made : s ≡ share label.params crypttext number

-- each string that stands anew is put under this storage index, in its place, and others that stood determine it
pub record PutsDetermined (index : List ℕ) (old new : GridState) : Type 0 where
  pub put : (server : ℕ) (key : ShareKey) (s : List ℕ) → stood new server key ≡ Some s → (stood old server key ≡ Some s) ⊎ ((key.0 ≡ index) × (server ≡ server_of (length old.stores) index key.1) × IsDetermined old index key.1 s)

-- each string that stands anew is one of these, in its place; for private clauses
pub record PutsOnly (index : List ℕ) (shares : List (List ℕ)) (old new : GridState) : Type 0 where
  pub put : (server : ℕ) (key : ShareKey) (s : List ℕ) → stood new server key ≡ Some s → (stood old server key ≡ Some s) ⊎ ((key.0 ≡ index) × (server ≡ server_of (length old.stores) index key.1) × (slice_get shares key.1 ≡ Some s))

-- no string stands anew; for private clauses
pub record PutsNone (old new : GridState) : Type 0 where
  pub put : (server : ℕ) (key : ShareKey) (s : List ℕ) → stood new server key ≡ Some s → stood old server key ≡ Some s
