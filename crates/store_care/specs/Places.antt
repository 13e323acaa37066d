-- Places of a grid's servers.
use Rattle.std.specs.Prelude.{◌≢◌, ℕ, List, All}

-- a place is none of these
abbrev pub IsWithout : List ℕ → ℕ → Type 0
IsWithout places place = All (λ other. other ≢ place) places
