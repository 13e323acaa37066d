-- The shares of a grid as rows: server by server, each server's in the order of its store.
use Rattle.std.specs.Prelude.{ℕ, zero, suc, List, [], ◌++◌, length, map}
use Rattle.share_store.specs.Shares.{Shares, ShareEntry}
use Rattle.grid.specs.Found.{entries_at}

-- a server and one of its shares
abbrev pub Row : Type 0
Row = ℕ × ShareEntry

-- the rows of one of these maps; for private clauses
abbrev pub rows_at : List Shares → ℕ → List Row
rows_at maps n = map (λ e. (n, e)) (entries_at maps n)

-- the rows of the first maps
abbrev pub rows_below : List Shares → ℕ → List Row
rows_below maps zero = []
rows_below maps (suc n) = rows_below maps n ++ map (λ e. (n, e)) (entries_at maps n)

-- the rows of a grid whose stores are these maps
abbrev pub rows_of : List Shares → List Row
rows_of maps = rows_below maps (length maps)
