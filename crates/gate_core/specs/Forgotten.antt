-- Connections of which nothing is held but that they ended.
use Rattle.std.specs.Prelude.{ℕ, List, [], ◌++◌, map, if◌then◌else◌, Option, Some, None}
use Rattle.std.specs.Ordering.{nat_cmp}
use Rattle.std.specs.FinMap as finite
use Rattle.std.specs.FinSet as set
use Rattle.http_edge.specs.FramingState.{part_of}
use Rattle.gate_core.specs.declared.stage.Stage.TheVariants.{Ended}
use Rattle.gate_core.specs.ConnectionState.{ConnectionState, Connections}

-- what callers see of a connection that was forgotten: it ended, and nothing waits
abbrev pub gone : ConnectionState
gone = record { secret = None; conn = part_of []; stage = Ended; waiting = [] }

-- what they see of an id without an entry; for private clauses
abbrev pub gone_in : set.FinSet nat_cmp → ℕ → Option ConnectionState
gone_in ids id = if set.contains ids id then Some gone else None

-- entries for each of these ids
abbrev pub gone_at : List ℕ → List (ℕ × ConnectionState)
gone_at ids = map (λ id. (id, gone)) ids

-- the connections that have an entry, and then those that were forgotten
abbrev pub with_gone : List (ℕ × ConnectionState) → set.FinSet nat_cmp → Connections
with_gone entries ids = finite.from_entries (entries ++ gone_at (set.items ids))
