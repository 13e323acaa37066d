-- What a connection does in its turn.
use Rattle.std.specs.Prelude.{◌≡◌, ◌+◌, ◌-◌, ◌^◌, ◌≤◌, ◌⊎◌, min, ⊤, ◌&&◌, not, nat_eq, is_some, Bool, true, false, Option, Some, None}
use Rattle.std.specs.Duration.{as_nanos}
use Rattle.std.specs.Time.{instant_nanos}
use Rattle.std.specs.declared.time.Instant.{Instant}
use Rattle.gate_core.specs.ConnectionState.{State}
use Rattle.gate_flow.specs.declared.want.Want.{Want}
use Rattle.gate_flow.specs.declared.want.Want.TheVariants.{Read, Advance, Write, Nothing}
use Rattle.gate_flow.specs.Hosted.{IsHosted}
use Rattle.gate_turns.specs.declared.seat.End.{End}
use Rattle.gate_turns.specs.declared.seat.End.TheVariants.{Again, Blocked, Over}
use Rattle.gate_turns.specs.declared.seat.Side.{Side}
use Rattle.gate_turns.specs.declared.seat.Side.TheVariants as side
use Rattle.gate_turns.specs.declared.seat.Place.{Place}
use Rattle.gate_turns.specs.declared.seat.Place.TheVariants.{Queued, Turn, Awaits}
use Rattle.gate_limits.specs.declared.latencies.Latencies.{Latencies}
use Rattle.gate_limits.specs.declared.limits.Limits.{Limits}
use Rattle.gate_limits.specs.declared.memory.Memory.{Memory}
use Rattle.gate_limits.specs.declared.stopwatch.Begun.{Begun}
use Rattle.gate_limits.specs.declared.stopwatch.Stopwatch.{Stopwatch}
use Rattle.gate_limits.specs.Latencies.{latencies_after}
use Rattle.gate_poll.specs.declared.peer.Peer.{Peer}

-- it waits for a request of which nothing has come
abbrev pub is_idle_at : Want → Peer → Bool
is_idle_at Read peer = not peer.lingers && (nat_eq peer.kept 0 && not (is_some peer.stopwatch.begun))
is_idle_at Advance peer = false
is_idle_at Write peer = false
is_idle_at Nothing peer = false

abbrev pub is_idle : Peer → Bool
is_idle peer = is_idle_at peer.flow.want peer

-- something is still to be said, or its flow wants to read and it is only waited until it ends its side
abbrev pub owes_at : Want → Bool → Bool
owes_at Read lingers = lingers
owes_at Advance lingers = true
owes_at Write lingers = true
owes_at Nothing lingers = true

abbrev pub owes : Peer → Bool
owes peer = owes_at peer.flow.want peer.lingers

-- It may wait for this side of its socket. To write, where its flow wants that; to read, where its flow wants that, or it is only
-- waited until it ends its side. One whose flow wants to go on may wait to read too: it is kept from calling the gateway while
-- memory is used up, and goes on once it is readable or was called from among those that wait. That it is one of these is no part
-- of this, but of the contract of the function by which it begins to wait.
abbrev pub WaitsFor : Side → Peer → Type 0
WaitsFor side.Read peer = (peer.flow.want ≡ Read) ⊎ ((peer.flow.want ≡ Advance) ⊎ (peer.lingers ≡ true))
WaitsFor side.Write peer = peer.flow.want ≡ Write

abbrev pub EndsFor : End → Peer → Type 0
EndsFor Again peer = ⊤
EndsFor (Blocked side) peer = WaitsFor side peer
EndsFor Over peer = ⊤

abbrev pub EndsForSome : Option End → Peer → Type 0
EndsForSome None peer = ⊤
EndsForSome (Some end) peer = EndsFor end peer

abbrev pub StandsFor : Place → Peer → Type 0
StandsFor (Queued lane) peer = ⊤
StandsFor Turn peer = ⊤
StandsFor (Awaits side) peer = WaitsFor side peer

-- it waits for no side of its socket
abbrev pub IsGoing : End → Type 0
IsGoing Again = ⊤
IsGoing (Blocked side) = ⊥
IsGoing Over = ⊤

-- A connection went on, and ends its turn so or not: the calls of the gateway were of its own, and where it waits for a side
-- of its socket that is the one which WaitsFor says.
pub record IsStepped (old new : Peer) (end : Option End) (g h : State) : Type 0 where
  pub id : new.flow.id ≡ old.flow.id
  pub waits : EndsForSome end new
  pub hosted : IsHosted old.flow.id (old.flow.id + 1) g h

-- A connection is hurried while memory is used up: 16,384 bytes or more are kept of it, and it sends them, or it is the one that
-- goes on although memory is used up. Of another that takes a reply 1,048,576 bytes or more are.
abbrev pub IsHurried : Memory → Peer → Type 0
IsHurried memory peer = (16384 ≤ peer.kept) × ((peer.flow.want ≡ Read) ⊎ ((memory.first ≡ Some peer.flow.id) ⊎ (1048576 ≤ peer.kept)))

-- the limits of one that is hurried, where these are those of others
pub record AreHurried (limits hurried : Limits) : Type 0 where
  pub rate : hurried.rate ≡ 65536
  pub idle : as_nanos hurried.idle ≡ min (as_nanos limits.idle) 2_000_000_000
  pub grace : as_nanos hurried.grace ≡ min (as_nanos limits.grace) 2_000_000_000

-- a reply was made: the time since its request began is counted
abbrev pub timed_in : Option Begun → Instant → Latencies → Latencies
timed_in None now latencies = latencies
timed_in (Some begun) now latencies = latencies_after begun.kind (min (instant_nanos now - instant_nanos begun.since) (2 ^ 64 - 1)) latencies

abbrev pub timed_by : Stopwatch → Instant → Latencies → Latencies
timed_by stopwatch now latencies = timed_in stopwatch.begun now latencies
