-- What stands in the stores of a grid.
use Rattle.std.specs.Prelude.{ℕ, List, Option, slice_get, option_and_then}
use Rattle.std.specs.Option.{option_map_or}
use Rattle.std.specs.FinMap.{get}
use Rattle.share_store.specs.Shares.{Shares, ShareKey}

-- what stands at each server under each storage index and number
abbrev pub Standing : Type 0
Standing = ℕ → ShareKey → Option (List ℕ)

-- what stands, where the servers' stores are these maps
abbrev pub standing : List Shares → Standing
standing maps server key = option_and_then (λ shares. get shares key) (slice_get maps server)

-- a number of the store at a server, 0 past the last
abbrev pub at_server : {S : Type 0} → (S → ℕ) → List S → ℕ → ℕ
at_server number stores server = option_map_or number (slice_get stores server) 0
