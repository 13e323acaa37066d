-- What a loop over sockets does to a gateway.
use Rattle.std.specs.Prelude.{◌≡◌, ℕ, ◌≤◌, ◌<◌, ◌⊎◌, List, [], ◌∷◌, ◌++◌, All}
use Rattle.grid.specs.Leaves.{Leaves}
use Rattle.gate_core.specs.Events.{Event, Open, Bytes, End, Take, Lose, Spoil}
use Rattle.gate_core.specs.ConnectionState.{State, connection_at, waiting}
use Rattle.gate_core.specs.Faithful.{Faithful}
use Rattle.gate_flow.specs.Led.{IsLed}

-- A connection was forgotten: what waited for it was taken, and handed out to nobody, or nothing was called.
abbrev pub IsForgotten : ℕ → State → State → Type 0
IsForgotten id old new = IsLed id [] old new ⊎ IsLed id (Take id (waiting old id) ∷ []) old new

-- the id is one of those from the first on, and before the next
abbrev pub IsOwnId : ℕ → ℕ → ℕ → Type 0
IsOwnId first next id = (first ≤ id) × (id < next)

-- a call of a connection of its own
abbrev pub IsOwn : ℕ → ℕ → Event → Type 0
IsOwn first next (Open id secret) = IsOwnId first next id
IsOwn first next (Bytes id piece) = IsOwnId first next id
IsOwn first next (End id) = IsOwnId first next id
IsOwn first next (Take id given) = IsOwnId first next id
IsOwn first next (Lose server key) = ⊥
IsOwn first next (Spoil server key place) = ⊥

-- a connection that was opened, by its id, and its secret
abbrev pub Opened : Type 0
Opened = ℕ × List ℕ

abbrev pub opened_in : Event → List Opened
opened_in (Open id secret) = (id, secret) ∷ []
opened_in (Bytes id piece) = []
opened_in (End id) = []
opened_in (Take id given) = []
opened_in (Lose server key) = []
opened_in (Spoil server key place) = []

-- the connections that calls open, in their order
abbrev pub opened_by : List Event → List Opened
opened_by [] = []
opened_by (e ∷ calls) = opened_in e ++ opened_by calls

-- A gateway was served: it was led by calls of connections of its own, whose ids are those from the first on, and before
-- the next. These were opened, each under the secret beside it, and no other connection changed.
pub record IsHostedWith (first next : ℕ) (opened : List Opened) (old new : State) : Type 0 where
  pub calls : List Event
  pub own : All (IsOwn first next) calls
  pub opens : opened_by calls ≡ opened
  pub settings : new.settings ≡ old.settings
  pub leaves : Leaves old.grid new.grid
  pub others : (other : ℕ) → (other < first) ⊎ (next ≤ other) → connection_at new other ≡ connection_at old other
  pub told : (events : List Event) → Faithful old events → Faithful new (events ++ calls)

-- it was served so, and no connection was opened
abbrev pub IsHosted : ℕ → ℕ → State → State → Type 0
IsHosted first next old new = IsHostedWith first next [] old new
