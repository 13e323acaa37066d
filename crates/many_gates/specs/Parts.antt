-- Gateways over one grid, each with connections of its own.
use Rattle.std.specs.Prelude.{◌≡◌, ℕ, List, ◌++◌, ◌∷◌, [], Some, None}
use Rattle.gate_core.specs.Events.{Event}
use Rattle.gate_core.specs.ConnectionState.{ConnectionState, State, connection_at}
use Rattle.gate_core.specs.Came.{Opening, Came}
use Rattle.gate_core.specs.AfterCall.{with_grid}

-- One gateway is a part of another that has the connections of all: over the same grid, set up alike, and what it holds of a
-- connection that one holds too.
pub record IsOneOfThem (part all : State) : Type 0 where
  pub settings : part.settings ≡ all.settings
  pub grid : part.grid ≡ all.grid
  pub held : (id : ℕ) (held : ConnectionState) → connection_at part id ≡ Some held → connection_at all id ≡ Some held

-- A call of one of several gateways over one grid is a call of that which has the connections of all; the others, which
-- know nothing of the call's connection, are parts of it still, over the grid that the call left.
pub record GoesOnTogether (opening : Opening) (all new : State) (id : ℕ) (events : List Event) (e : Event) : Type 0 where
  pub after : State
  pub came : Came opening after (events ++ e ∷ [])
  pub part : IsOneOfThem new after
  pub others : (other : State) → IsOneOfThem other all → connection_at other id ≡ None → IsOneOfThem (with_grid other new.grid) after
