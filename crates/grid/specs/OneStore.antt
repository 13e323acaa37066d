-- What a call at one server's store leaves of a grid over honest stores; for private clauses.
use Rattle.std.specs.Prelude.{◌≡◌, ℕ, ◌+◌, ◌==◌, ◌&&◌, List, length, is_none, if◌then◌else◌, slice_set, slice_get}
use Rattle.std.specs.Option.{option_map_or}
use Rattle.share_store.specs.Shares.{Shares, ShareKey}
use Rattle.share_store.specs.Put.{put_once}
use Rattle.grid.specs.GridState.{GridState, maps_of, stood, room_at}
use Rattle.grid.specs.Changes.{put_at}

-- these maps with one of them changed
abbrev pub with_changed : ℕ → (Shares → Shares) → List Shares → List Shares
with_changed server change maps = option_map_or (λ m. slice_set maps server (change m)) (slice_get maps server) maps

-- the share was put at a place, where none stood, and took its bytes of room
pub record IsPutHere (server : ℕ) (key : ShareKey) (bytes : List ℕ) (old new : GridState) : Type 0 where
  pub maps : maps_of new ≡ with_changed server (λ m. put_once m key bytes) (maps_of old)
  pub stands : stood new ≡ put_at server key bytes (stood old)
  pub rooms : (s : ℕ) → room_at new s + (if s == server && is_none (stood old s key) then length bytes else 0) ≡ room_at old s
