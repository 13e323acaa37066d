-- How many bytes shares have.
use Rattle.std.specs.Prelude.{ℕ, List, map, length}
use Rattle.std.specs.FinMap.{entries}
use Rattle.share_store.specs.Shares.{Shares, ShareKey, ShareEntry}

-- each key, with the number of bytes
abbrev pub sizes_in : List ShareEntry → List (ShareKey × ℕ)
sizes_in es = map (λ e. (e.0, length e.1)) es

abbrev pub sizes_of : Shares → List (ShareKey × ℕ)
sizes_of shares = sizes_in (entries shares)
