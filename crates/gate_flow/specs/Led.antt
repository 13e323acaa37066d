-- What calls of one connection do to a gateway.
use Rattle.std.specs.Prelude.{◌≡◌, ◌≢◌, ℕ, List, [], ◌∷◌, ◌++◌, All, ⊤, Option, Some, None, true, false}
use Rattle.grid.specs.GridState.{NoneFailed}
use Rattle.grid.specs.Leaves.{Leaves}
use Rattle.http_edge.specs.FramingState.{rest, is_closed as is_left_closed}
use Rattle.gate_core.specs.Events.{Event, Open, Bytes, End, Take, Lose, Spoil, caller_of, bytes_of_calls, handed, has_ended}
use Rattle.gate_core.specs.ConnectionState.{ConnectionState, State, connection_at, waiting, bytes_refusal}
use Rattle.gate_core.specs.Came.{Opening, Came, IsRoomy}
use Rattle.gate_core.specs.Faithful.{Faithful}

-- each of these calls is of this connection
abbrev pub AreOf : ℕ → List Event → Type 0
AreOf id calls = All (λ e. caller_of e ≡ Some id) calls

-- a call that moves a connection on, which was opened before: it brings bytes of it or its end, or takes what waits for it
abbrev pub IsMove : ℕ → Event → Type 0
IsMove id (Open other secret) = ⊥
IsMove id (Bytes other piece) = other ≡ id
IsMove id (End other) = other ≡ id
IsMove id (Take other given) = other ≡ id
IsMove id (Lose server key) = ⊥
IsMove id (Spoil server key place) = ⊥

abbrev pub AreMoves : ℕ → List Event → Type 0
AreMoves id calls = All (IsMove id) calls

-- the gateway takes bytes of a connection: it was opened, its end didn't come, and memory didn't run out on it
abbrev pub TakesBytes : Option ConnectionState → Type 0
TakesBytes held = bytes_refusal held ≡ None

-- These calls of one connection led from one state of a gateway to another, whatever the stores: so every caller was told
-- what it asked, and no other connection changed.
pub record IsLed (id : ℕ) (calls : List Event) (old new : State) : Type 0 where
  pub settings : new.settings ≡ old.settings
  pub leaves : Leaves old.grid new.grid
  pub others : (other : ℕ) → other ≢ id → connection_at new other ≡ connection_at old other
  pub told : (events : List Event) → Faithful old events → Faithful new (events ++ calls)

-- They led there also where each reply is the written answer: over honest stores that have the room and don't fail.
abbrev pub IsLedAsWritten : List Event → State → State → Type 0
IsLedAsWritten calls old new = (opening : Opening) (events : List Event) → Came opening old events → IsRoomy old.settings opening (events ++ calls) → NoneFailed old.grid new.grid → Came opening new (events ++ calls)

-- no item that closes was completed by the bytes that came on a connection
abbrev pub IsUnclosed : ℕ → List Event → Type 0
IsUnclosed id events = is_left_closed (rest (bytes_of_calls id events)) ≡ false

-- a call after these brings no bytes, or does so while no item that closes was completed
abbrev pub IsTimely : ℕ → List Event → Event → Type 0
IsTimely id before (Open other secret) = ⊤
IsTimely id before (Bytes other piece) = IsUnclosed id before
IsTimely id before (End other) = ⊤
IsTimely id before (Take other given) = ⊤
IsTimely id before (Lose server key) = ⊤
IsTimely id before (Spoil server key place) = ⊤

-- so does each of these, one after the other
abbrev pub AreTimely : ℕ → List Event → List Event → Type 0
AreTimely id before [] = ⊤
AreTimely id before (e ∷ calls) = IsTimely id before e × AreTimely id (before ++ e ∷ []) calls

-- Calls of one connection led there, none of which was its end, and none brought bytes behind an item that closes. What
-- they brought are the first bytes of a piece, of which the others are left, and what they handed out was put behind a
-- portion.
pub record IsMoved (id : ℕ) (old new : State) (piece left portion more : List ℕ) : Type 0 where
  pub calls : List Event
  pub own : AreMoves id calls
  pub going : has_ended id calls ≡ false
  pub timely : (events : List Event) → Faithful old events → AreTimely id events calls
  pub led : IsLed id calls old new
  pub brought : piece ≡ bytes_of_calls id calls ++ left
  pub handed_out : more ≡ portion ++ handed id calls

-- Each reply is the written answer too, and a connection of which the gateway took bytes is one still.
pub record IsMovedAsWritten (id : ℕ) (old new : State) (piece left portion more : List ℕ) : Type 0 where
  pub moved : IsMoved id old new piece left portion more
  pub as_written : IsLedAsWritten moved.calls old new
  pub takes : TakesBytes (connection_at old id) → TakesBytes (connection_at new id)

-- A connection was given up: no more bytes are taken of it. Its end came, if it was still to come. Nothing was handed out,
-- and what waited waits still.
pub record IsGivenUp (id : ℕ) (old new : State) : Type 0 where
  pub calls : List Event
  pub own : AreMoves id calls
  pub timely : (events : List Event) → AreTimely id events calls
  pub led : IsLed id calls old new
  pub as_written : IsLedAsWritten calls old new
  pub brings : bytes_of_calls id calls ≡ []
  pub gives : handed id calls ≡ []
  pub waits : waiting new id ≡ waiting old id
  pub ends : TakesBytes (connection_at old id) → has_ended id calls ≡ true
  pub over : bytes_refusal (connection_at new id) ≢ None
