-- What an event of the poll does.
use Rattle.std.specs.Prelude.{◌≡◌, ℕ, ◌||◌, Bool, true, Option, IfSome, IsSomeAnd}
use Rattle.mio.specs.Event.{is_readable, is_writable, is_error, is_read_closed, is_write_closed}
use Rattle.mio.specs.declared.event.event.Event.{Event}
use Rattle.gate_turns.specs.Seat.{IsReported}
use Rattle.gate_turns.specs.Turns.{TurnsState, seat_at}
use Rattle.gate_limits.specs.declared.sockets.Entrance.{Entrance}

-- an open connection was told that sides of its socket are ready
abbrev pub IsInformed : ℕ → Bool → Bool → TurnsState → TurnsState → Type 0
IsInformed id readable writable old new = IfSome (seat_at old id) (λ was. IsSomeAnd (seat_at new id) (λ now. IsReported was now readable writable))

-- an event says that bytes may be read, or that the end or an error is to be found by that; and the same of writing
abbrev pub wakes_reader : Event → Bool
wakes_reader e = is_readable e || is_read_closed e || is_error e

abbrev pub wakes_writer : Event → Bool
wakes_writer e = is_writable e || is_write_closed e || is_error e

-- connections may wait at the control listener's acceptor from now on, and nothing else of it changed
abbrev pub IsKnocked : Option Entrance → Option Entrance → Type 0
IsKnocked old new = IfSome old (λ was. IsSomeAnd new (λ now. now.acceptor ≡ record was.acceptor { waiting = true }))
