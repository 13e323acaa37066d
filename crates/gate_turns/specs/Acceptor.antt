-- When connections may be accepted.
use Rattle.std.specs.Prelude.{◌≡◌, ◌-◌, ◌≤◌, Bool, true, false, ⊤, Option, Some, None}
use Rattle.std.specs.Time.{instant_nanos}
use Rattle.std.specs.declared.time.Instant.{Instant}
use Rattle.gate_turns.specs.declared.acceptor.Acceptor.{Acceptor}
use Rattle.gate_turns.specs.declared.acceptor.Accepted.{Accepted}
use Rattle.gate_turns.specs.declared.acceptor.Accepted.TheVariants.{One, Nobody, Starved}

-- the system gave no socket at no time, or half a second ago at least
abbrev pub IsPauseOver : Option Instant → Instant → Type 0
IsPauseOver None now = ⊤
IsPauseOver (Some since) now = 500_000_000 ≤ instant_nanos now - instant_nanos since

-- Connections may wait, there is room for one more, and no pause goes on.
pub record MayAccept (acceptor : Acceptor) (now : Instant) (room : Bool) : Type 0 where
  pub waiting : acceptor.waiting ≡ true
  pub room_left : room ≡ true
  pub no_pause : IsPauseOver acceptor.paused now

-- the acceptor after an attempt to accept a connection
abbrev pub acceptor_after : Accepted → Acceptor → Instant → Acceptor
acceptor_after One acceptor now = record acceptor { paused = None }
acceptor_after Nobody acceptor now = record acceptor { waiting = false; paused = None }
acceptor_after Starved acceptor now = record acceptor { paused = Some now }
