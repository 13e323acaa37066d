-- At which of several acceptors a connection is accepted next.
use Rattle.std.specs.Prelude.{ℕ, ◌+◌, ◌-◌, nat_le, if◌then◌else◌, Bool, true, None, List, length, slice_get, slice_set, IsSomeAnd}
use Rattle.std.specs.Option.{option_map_or}
use Rattle.std.specs.declared.time.Instant.{Instant}
use Rattle.gate_turns.specs.declared.acceptor.Acceptor.{Acceptor}
use Rattle.gate_turns.specs.Acceptor.{MayAccept}

-- The acceptors in their order, and the place of the one whose turn is the first to come. Behind the last comes the first.
pub record AcceptorsState : Type 0 where
  pub acceptors : List Acceptor
  pub first : ℕ

-- there is an acceptor at this place, and one may be accepted at it
abbrev pub MayAcceptAt : List Acceptor → ℕ → Instant → Bool → Type 0
MayAcceptAt acceptors place now room = IsSomeAnd (slice_get acceptors place) (λ acceptor. MayAccept acceptor now room)

-- how many acceptors have their turn before the one at a place
abbrev pub acceptors_before : ℕ → AcceptorsState → ℕ
acceptors_before place s = if nat_le s.first place then place - s.first else place + length s.acceptors - s.first

-- the acceptor at a place was changed so, where there is one
abbrev pub with_acceptor : ℕ → (Acceptor → Acceptor) → AcceptorsState → AcceptorsState
with_acceptor place change s = option_map_or (λ acceptor. record s { acceptors = slice_set s.acceptors place (change acceptor) }) (slice_get s.acceptors place) s

-- connections may wait at it
abbrev pub knocked : Acceptor → Acceptor
knocked acceptor = record acceptor { waiting = true }

-- one at which connections may wait, before any attempt
abbrev pub new_acceptor : Acceptor
new_acceptor = record { waiting = true; paused = None }
