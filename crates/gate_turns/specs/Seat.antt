-- One connection's place.
use Rattle.std.specs.Prelude.{◌≡◌, ℕ, ◌-◌, ◌||◌, ◌&&◌, not, nat_lt, Bool, true, false, if◌then◌else◌, ⊤, Option, Some, None}
use Rattle.gate_turns.specs.declared.seat.Seat.{Seat}
use Rattle.gate_turns.specs.declared.seat.Lane.{Lane}
use Rattle.gate_turns.specs.declared.seat.Lane.TheVariants.{Quick, Fresh, Slow}
use Rattle.gate_turns.specs.declared.seat.Side.{Side}
use Rattle.gate_turns.specs.declared.seat.Side.TheVariants.{Read, Write}
use Rattle.gate_turns.specs.declared.seat.Place.{Place}
use Rattle.gate_turns.specs.declared.seat.Place.TheVariants.{Queued, Turn, Awaits}
use Rattle.gate_turns.specs.declared.seat.End.{End}
use Rattle.gate_turns.specs.declared.seat.End.TheVariants.{Again, Blocked, Over}
use Rattle.gate_turns.specs.declared.seat.Turned.{Turned}

-- whether a side of its socket was reported ready, and hasn't blocked since
abbrev pub is_side_ready : Side → Seat → Bool
is_side_ready Read seat = seat.readable
is_side_ready Write seat = seat.writable

-- the lane of a connection that is held to be slow for so many turns, and had a reply or not
abbrev pub lane_for : ℕ → Bool → Lane
lane_for slow fresh = if nat_lt 0 slow then Slow else (if fresh then Fresh else Quick)

-- a connection of an address that was just accepted
abbrev pub new_seat : ℕ → Seat
new_seat address = record { address = address; place = Queued Fresh; readable = true; writable = true; slow = 0; fresh = true; owed = false; idle = None }

-- where it waits, it waits for a side that blocked and wasn't reported since
abbrev pub IsSettledAt : Place → Seat → Type 0
IsSettledAt (Queued lane) seat = ⊤
IsSettledAt Turn seat = ⊤
IsSettledAt (Awaits side) seat = is_side_ready side seat ≡ false

abbrev pub IsSeatSettled : Seat → Type 0
IsSeatSettled seat = IsSettledAt seat.place seat

-- whether a connection that waits there can go on, with what is known of its socket
abbrev pub is_woken : Place → Seat → Bool
is_woken (Queued lane) seat = false
is_woken Turn seat = false
is_woken (Awaits side) seat = is_side_ready side seat

-- the lane in which it stands, if it stands in one
abbrev pub lane_in : Place → Option Lane
lane_in (Queued lane) = Some lane
lane_in Turn = None
lane_in (Awaits side) = None

-- Its socket was reported ready: what was known of it stays known, and one that waited for that has a turn to come.
pub record IsReported (old new : Seat) (read write : Bool) : Type 0 where
  pub readable : new.readable ≡ (old.readable || read)
  pub writable : new.writable ≡ (old.writable || write)
  pub slow : new.slow ≡ old.slow
  pub fresh : new.fresh ≡ old.fresh
  pub owed : new.owed ≡ old.owed
  pub address : new.address ≡ old.address
  pub idle : new.idle ≡ old.idle
  pub place : new.place ≡ (if is_woken old.place new then Queued (lane_for old.slow old.fresh) else old.place)

-- where a connection is after a turn that ended so, and what is known of its socket
abbrev pub StandsAfter : End → Seat → Seat → Type 0
StandsAfter Again old new = (new.place ≡ Queued (lane_for new.slow new.fresh)) × (new.readable ≡ old.readable) × (new.writable ≡ old.writable)
StandsAfter (Blocked Read) old new = (new.place ≡ Awaits Read) × (new.readable ≡ false) × (new.writable ≡ old.writable)
StandsAfter (Blocked Write) old new = (new.place ≡ Awaits Write) × (new.readable ≡ old.readable) × (new.writable ≡ false)
StandsAfter Over old new = (new.place ≡ Turn) × (new.readable ≡ old.readable) × (new.writable ≡ old.writable)

-- Its turn is over, after so many turns in all: it is a slow one for 255 turns after a long step, and fresh until it has a
-- reply. It is idle since then where nothing of a next request has come.
pub record IsTurned (turns : ℕ) (old : Seat) (turned : Turned) (new : Seat) : Type 0 where
  pub slow : new.slow ≡ (if turned.long then 255 else old.slow - 1)
  pub fresh : new.fresh ≡ (old.fresh && not turned.replied)
  pub owed : new.owed ≡ turned.owed
  pub address : new.address ≡ old.address
  pub idle : new.idle ≡ (if turned.idle then Some turns else None)
  pub place : StandsAfter turned.end old new

-- whether a connection is closed after such a turn: it is over, or serving is to stop and nothing is owed to it
abbrev pub is_last : End → Bool
is_last Again = false
is_last (Blocked side) = false
is_last Over = true

abbrev pub is_closing : Turned → Bool → Bool
is_closing turned stopping = is_last turned.end || (stopping && not turned.owed)

-- since after how many turns a connection is idle: it waits for its socket, nothing is owed to it, and nothing of a next
-- request has come
abbrev pub idle_at : Place → Seat → Option ℕ
idle_at (Queued lane) seat = None
idle_at Turn seat = None
idle_at (Awaits side) seat = if seat.owed then None else seat.idle

abbrev pub idle_since : Seat → Option ℕ
idle_since seat = idle_at seat.place seat
