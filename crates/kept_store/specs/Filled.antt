-- Shares put one after the other; for private clauses.
use Rattle.std.specs.Prelude.{◌≡◌, ◌<◌, ℕ, List, [], ◌∷◌, length, None}
use Rattle.std.specs.FinMap.{get}
use Rattle.share_store.specs.Shares.{Shares, ShareKey, ShareEntry}
use Rattle.share_store.specs.Put.{put_once}

abbrev pub filled_shares : List ShareEntry → Shares → Shares
filled_shares [] m = m
filled_shares (e ∷ es) m = filled_shares es (put_once m e.0 e.1)

-- none stands there, and the bytes are more than the room
abbrev pub IsShareTooLong : Shares → ℕ → ShareKey → List ℕ → Type 0
IsShareTooLong m room key bytes = (get m key ≡ None) × (room < length bytes)
