-- What is kept of connections, and what the loop does to the gateway.
use Rattle.std.specs.Prelude.{◌≡◌, ◌≢◌, ℕ, ◌≤◌, ◌⊎◌, ⊤, Bool, true, false, IfSome, IsSomeAnd, List, All, Option, Some, None}
use Rattle.std.specs.Ordering.{nat_cmp}
use Rattle.std.specs.Map.{lookup}
use Rattle.std.specs.BTreeMap.{is_at}
use Rattle.gate_core.specs.ConnectionState.{ConnectionState, State, connection_at}
use Rattle.gate_flow.specs.Led.{IsGivenUp}
use Rattle.gate_flow.specs.Hosted.{IsForgotten, IsHosted, IsHostedWith, IsOwnId, Opened}
use Rattle.gate_turns.specs.declared.seat.Seat.{Seat}
use Rattle.gate_turns.specs.declared.seat.Turned.{Turned}
use Rattle.gate_turns.specs.declared.places.Choice.{Choice}
use Rattle.gate_turns.specs.declared.places.Choice.TheVariants.{Opens, Replaces, Refused}
use Rattle.gate_turns.specs.Turns.{TurnsState, seat_at, HasLeft}
use Rattle.gate_poll.specs.declared.peer.Peer.{Peer}
use Rattle.gate_poll.specs.declared.table.Table.{Table}
use Rattle.gate_poll.specs.Peers.{owes, is_idle, EndsFor, StandsFor}

-- the connection under an id
abbrev pub peer_in : List (ℕ × Peer) → ℕ → Option Peer
peer_in peers id = lookup (is_at (nat_cmp id)) peers

-- the other connections are as they were
abbrev pub OthersKept : ℕ → List (ℕ × Peer) → List (ℕ × Peer) → Type 0
OthersKept id old new = (other : ℕ) → other ≢ id → peer_in new other ≡ peer_in old other

-- A connection is kept under the id that its flow has, which was given before. Where it waits for a side of its socket that is
-- one which WaitsFor says: to read also where it is only waited until it ends, or where its flow wants to go on, as while it waits
-- for memory. Its seat says whether something is owed to it, and only one that waits for a request of which nothing has come
-- is idle by it.
pub record IsSeatOf (next id : ℕ) (peer : Peer) (seat : Seat) : Type 0 where
  pub own : IsOwnId 1 next id
  pub same : peer.flow.id ≡ id
  pub waits : StandsFor seat.place peer
  pub owed : seat.owed ≡ owes peer
  pub idle : IfSome seat.idle (λ _. is_idle peer ≡ true)

-- an id has a connection exactly where it has a seat
abbrev pub HasSeat : ℕ → ℕ → Option Peer → Option Seat → Type 0
HasSeat next id None None = ⊤
HasSeat next id None (Some seat) = ⊥
HasSeat next id (Some peer) None = ⊥
HasSeat next id (Some peer) (Some seat) = IsSeatOf next id peer seat

-- the connection under an id is one of those whose ids were given, and its flow has that id
abbrev pub IsOwnPeer : ℕ → ℕ → Option Peer → Type 0
IsOwnPeer next id None = ⊤
IsOwnPeer next id (Some peer) = IsOwnId 1 next id × (peer.flow.id ≡ id)

abbrev pub AreOwnPeers : ℕ → List (ℕ × Peer) → Type 0
AreOwnPeers next peers = (id : ℕ) → IsOwnPeer next id (peer_in peers id)

-- Each connection has a seat, and nobody has its turn. So many ids were given.
pub record AreKept (next : ℕ) (peers : List (ℕ × Peer)) (turns : TurnsState) : Type 0 where
  pub first : 1 ≤ next
  pub each : (id : ℕ) → HasSeat next id (peer_in peers id) (seat_at turns id)
  pub idle : turns.turn ≡ None

abbrev pub IsTableKept : Table → Type 0
IsTableKept table = AreKept table.ids.next table.peers.entries table.turns

-- Each connection has a seat, and one of them has its turn.
pub record IsTurnOf (id next : ℕ) (peers : List (ℕ × Peer)) (turns : TurnsState) : Type 0 where
  pub first : 1 ≤ next
  pub each : (other : ℕ) → HasSeat next other (peer_in peers other) (seat_at turns other)
  pub turn : turns.turn ≡ Some id

-- Each connection but one has a seat, and nobody has its turn.
pub record AreKeptBut (id next : ℕ) (peers : List (ℕ × Peer)) (turns : TurnsState) : Type 0 where
  pub first : 1 ≤ next
  pub each : (other : ℕ) → other ≢ id → HasSeat next other (peer_in peers other) (seat_at turns other)
  pub own : IsOwnPeer next id (peer_in peers id)
  pub gone : seat_at turns id ≡ None
  pub idle : turns.turn ≡ None

-- The socket of a connection was called in its turn: it waits for what its turn says.
pub record IsSocketCalled (id : ℕ) (turned : Turned) (old new : List (ℕ × Peer)) : Type 0 where
  pub before : Peer
  pub after : Peer
  pub was : peer_in old id ≡ Some before
  pub found : peer_in new id ≡ Some after
  pub same : after.flow.id ≡ before.flow.id
  pub waits : EndsFor turned.end after
  pub owed : turned.owed ≡ owes after
  pub idle : turned.idle ≡ is_idle after

-- The gateway was served for connections that are kept: it was led by calls of ids that were given, and none was opened.
pub record ArePeersServed (before next : ℕ) (peers : List (ℕ × Peer)) (turns : TurnsState) (g h : State) : Type 0 where
  pub kept : AreKept next peers turns
  pub next_is : before ≤ next
  pub hosted : IsHosted 1 next g h

abbrev pub Serves : Table → Table → State → State → Type 0
Serves old new g h = ArePeersServed old.ids.next new.ids.next new.peers.entries new.turns g h

-- It was led by such calls, and each connection that they opened was opened so.
pub record IsHostedUnder (under : Opened → Type 0) (first next : ℕ) (g h : State) : Type 0 where
  pub opened : List Opened
  pub hosted : IsHostedWith first next opened g h
  pub each : All under opened

-- It was served for connections that are kept, and some were opened, each so.
pub record ArePeersServedUnder (under : Opened → Type 0) (before next : ℕ) (peers : List (ℕ × Peer)) (turns : TurnsState) (g h : State) : Type 0 where
  pub kept : AreKept next peers turns
  pub next_is : before ≤ next
  pub hosted : IsHostedUnder under 1 next g h

abbrev pub ServesUnder : (Opened → Type 0) → Table → Table → State → State → Type 0
ServesUnder under old new g h = ArePeersServedUnder under old.ids.next new.ids.next new.peers.entries new.turns g h

-- A connection was closed and then forgotten, and this is held of it since.
pub record IsLetGo (id : ℕ) (held : Option ConnectionState) : Type 0 where
  pub before : State
  pub closed : State
  pub after : State
  pub given_up : IsGivenUp id before closed
  pub forgotten : IsForgotten id closed after
  pub since : held ≡ connection_at after id

-- of one that isn't kept: it was let go, or it wasn't kept before either, and is as it was
abbrev pub HasGone : Type 0 → ℕ → Option Peer → State → State → Type 0
HasGone forgot id was g h = (forgot × IsLetGo id (connection_at h id)) ⊎ ((was ≡ None) × (connection_at h id ≡ connection_at g id))

-- Each connection that is kept no more was closed and then forgotten. Those for which that was called before are told still.
pub record AreLetGo (was now : ℕ → Type 0) (old new : List (ℕ × Peer)) (g h : State) : Type 0 where
  pub still : (id : ℕ) → was id → now id
  pub each : (id : ℕ) → peer_in new id ≡ None → HasGone (now id) id (peer_in old id) g h

abbrev pub LetsGo : (ℕ → Type 0) → (ℕ → Type 0) → Table → Table → State → State → Type 0
LetsGo was now old new g h = AreLetGo was now old.peers.entries new.peers.entries g h

-- a connection is as it was before serving, or it was let go
abbrev pub IsOverAt : Option ConnectionState → Option ConnectionState → ℕ → Type 0
IsOverAt old new id = (new ≡ old) ⊎ IsLetGo id new

-- Room was made for a newcomer, or not: nothing changes where it has a place of its own, or none; else one connection is
-- closed for it, which waits for a request of which nothing has come.
abbrev pub IsRoomMade : Choice → Bool → List (ℕ × Peer) → TurnsState → TurnsState → Type 0
IsRoomMade Opens made peers old new = (made ≡ true) × (new ≡ old)
IsRoomMade (Replaces id) made peers old new = (made ≡ true) × (IsSomeAnd (peer_in peers id) (λ peer. is_idle peer ≡ true) × HasLeft id old new)
IsRoomMade Refused made peers old new = (made ≡ false) × (new ≡ old)
