-- The shares of one storage index, server by server.
use Rattle.std.specs.Prelude.{ℕ, zero, suc, List, [], ◌++◌, map, slice_get}
use Rattle.std.specs.Option.{option_map_or}
use Rattle.std.specs.FinMap.{entries}
use Rattle.share_store.specs.Shares.{Shares, ShareEntry}
use Rattle.share_store.specs.Numbers.{of_index}

-- the shares of one index in a store, in the order of their numbers, with the server's number
abbrev pub found_in : ℕ → List ℕ → List ShareEntry → List (ℕ × ℕ × List ℕ)
found_in server index es = map (λ e. (server, e.0.1, e.1)) (of_index index es)

-- the entries of one of these maps
abbrev pub entries_at : List Shares → ℕ → List ShareEntry
entries_at maps server = option_map_or entries (slice_get maps server) []

-- the shares of one index in the first maps
abbrev pub found_below : List Shares → List ℕ → ℕ → List (ℕ × ℕ × List ℕ)
found_below maps index zero = []
found_below maps index (suc n) = found_below maps index n ++ found_in n index (entries_at maps n)

-- a found share as its numbers and bytes
abbrev pub found_bytes : {A : Type 0} → (A → List ℕ) → ℕ × ℕ × A → ℕ × ℕ × List ℕ
found_bytes bytes found = (found.0, found.1, bytes found.2)

-- a share with its number, as a server's
abbrev pub of_server : {A : Type 0} → ℕ → ℕ × A → ℕ × ℕ × A
of_server server share = (server, share.0, share.1)

-- where a found share stands: its server and its number
abbrev pub found_place : ℕ × ℕ × List ℕ → ℕ × ℕ
found_place found = (found.0, found.1)
