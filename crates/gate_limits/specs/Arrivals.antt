-- What came of an attempt to accept a connection.
use Rattle.std.specs.Prelude.{⊤}
use Rattle.gate_turns.specs.declared.acceptor.Accepted.{Accepted}
use Rattle.gate_turns.specs.declared.acceptor.Accepted.TheVariants.{One, Nobody as NobodyCame, Starved as StarvedCame}
use Rattle.gate_limits.specs.declared.sockets.Arrival.{Arrival}
use Rattle.gate_limits.specs.declared.sockets.Arrival.TheVariants.{Socket, Gone, Nobody, Starved}

-- what it says of the acceptor
abbrev pub came_of : Arrival → Accepted
came_of (Socket stream peer) = One
came_of Gone = One
came_of Nobody = NobodyCame
came_of Starved = StarvedCame

-- a socket came
abbrev pub IsSocket : Arrival → Type 0
IsSocket (Socket stream peer) = ⊤
IsSocket Gone = ⊥
IsSocket Nobody = ⊥
IsSocket Starved = ⊥
