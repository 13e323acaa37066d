-- What the names of a store's shares begin with on a Redis server.
use Rattle.std.specs.Prelude.{ℕ, List, ◌++◌, codes}

-- `wozhinnam:NAME:`
abbrev pub prefix : List ℕ → List ℕ
prefix name = codes "wozhinnam:" ++ name ++ codes ":"
