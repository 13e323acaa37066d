-- All connections, with their places.
use Rattle.std.specs.Prelude.{◌≡◌, ◌≢◌, ◌≤◌, ℕ, ⊤, if◌then◌else◌, nat_eq, ◌+◌, length, false, List, [], ◌∷◌, Option, Some, None}
use Rattle.std.specs.Ordering.{nat_cmp}
use Rattle.std.specs.Map.{lookup}
use Rattle.std.specs.BTreeMap.{is_at}
use Rattle.gate_turns.specs.declared.seat.Seat.{Seat}
use Rattle.gate_turns.specs.declared.seat.Lane.{Lane}
use Rattle.gate_turns.specs.declared.seat.Lane.TheVariants.{Quick, Fresh, Slow}
use Rattle.gate_turns.specs.declared.seat.Place.{Place}
use Rattle.gate_turns.specs.declared.seat.Place.TheVariants.{Queued, Turn, Awaits}
use Rattle.gate_turns.specs.Seat.{IsSeatSettled}
use Rattle.gate_turns.specs.Lanes.{LanesState, queue_of, lanes_with}

-- the place of an open connection
abbrev pub seat_in : List (ℕ × Seat) → ℕ → Option Seat
seat_in seats id = lookup (is_at (nat_cmp id)) seats

-- how often a connection stands in a lane that is in this place: once in the lane where it is queued, and in no other
abbrev pub times_at : Lane → Place → ℕ
times_at Quick (Queued Quick) = 1
times_at Quick (Queued Fresh) = 0
times_at Quick (Queued Slow) = 0
times_at Fresh (Queued Quick) = 0
times_at Fresh (Queued Fresh) = 1
times_at Fresh (Queued Slow) = 0
times_at Slow (Queued Quick) = 0
times_at Slow (Queued Fresh) = 0
times_at Slow (Queued Slow) = 1
times_at lane Turn = 0
times_at lane (Awaits side) = 0

abbrev pub times_of : Lane → Option Seat → ℕ
times_of lane None = 0
times_of lane (Some seat) = times_at lane seat.place

-- how often an id stands in a list
abbrev pub times_in : ℕ → List ℕ → ℕ
times_in id [] = 0
times_in id (x ∷ xs) = (if nat_eq x id then 1 else 0) + times_in id xs

-- where it waits, it waits for a side that blocked and wasn't reported since
abbrev pub IsSettledIn : Option Seat → Type 0
IsSettledIn None = ⊤
IsSettledIn (Some seat) = IsSeatSettled seat

-- the one that is named as having its turn is open, and has it
abbrev pub HasTurnNow : Option ℕ → ℕ → Option Seat → Type 0
HasTurnNow turn id None = turn ≡ Some id → ⊥
HasTurnNow turn id (Some seat) = (seat.place ≡ Turn → turn ≡ Some id) × (turn ≡ Some id → seat.place ≡ Turn)

-- Each open connection is in exactly one place: it is queued once, in one lane, or has its turn, which is one at most, or
-- waits for a side of its socket that blocked and wasn't reported since. Nobody else is queued, and no more are open than
-- the lanes have room for.
pub record IsSeated (seats : List (ℕ × Seat)) (lanes : LanesState) (turn : Option ℕ) : Type 0 where
  pub queued : (lane : Lane) (id : ℕ) → times_in id (queue_of lane lanes) ≡ times_of lane (seat_in seats id)
  pub waits : (id : ℕ) → IsSettledIn (seat_in seats id)
  pub one : (id : ℕ) → HasTurnNow turn id (seat_in seats id)
  pub within : length seats ≤ lanes.room

-- the connections that are open, the lanes, who has its turn now, and how many turns there were
pub record TurnsState : Type 0 where
  pub seats : List (ℕ × Seat)
  pub lanes : LanesState
  pub turn : Option ℕ
  pub count : ℕ

-- the place of an open connection
abbrev pub seat_at : TurnsState → ℕ → Option Seat
seat_at s id = seat_in s.seats id

-- the others have what they had
abbrev pub OthersStay : ℕ → TurnsState → TurnsState → Type 0
OthersStay id old new = (other : ℕ) → other ≢ id → seat_at new other ≡ seat_at old other

-- it is open, and waits for its socket
abbrev pub IsAwaitingAt : Place → Type 0
IsAwaitingAt (Queued lane) = ⊥
IsAwaitingAt Turn = ⊥
IsAwaitingAt (Awaits side) = ⊤

abbrev pub IsAwaiting : Option Seat → Type 0
IsAwaiting None = ⊥
IsAwaiting (Some seat) = IsAwaitingAt seat.place

-- and nothing is owed to it
abbrev pub IsDismissible : Option Seat → Type 0
IsDismissible None = ⊥
IsDismissible (Some seat) = IsAwaitingAt seat.place × (seat.owed ≡ false)

-- it was queued, and has its turn now
abbrev pub HasBegun : ℕ → TurnsState → TurnsState → Type 0
HasBegun id old new = (was : Seat) × (seat_at old id ≡ Some was) × (seat_at new id ≡ Some (record was { place = Turn })) × (new.turn ≡ Some id)

-- the lanes after a connection came to a place: it stands in a lane where that place is one
abbrev pub lanes_after : Place → ℕ → LanesState → LanesState
lanes_after (Queued lane) id s = lanes_with lane id s
lanes_after Turn id s = s
lanes_after (Awaits side) id s = s

-- A connection is open, and came to the place where it is: it stands in a lane where that place is one.
pub record HasCome (id : ℕ) (now : Seat) (old new : TurnsState) : Type 0 where
  pub seat : seat_at new id ≡ Some now
  pub lanes : new.lanes ≡ lanes_after now.place id old.lanes

-- A connection was closed: it has no place, and the lanes are as they were.
pub record HasLeft (id : ℕ) (old new : TurnsState) : Type 0 where
  pub seat : seat_at new id ≡ None
  pub lanes : new.lanes ≡ old.lanes
