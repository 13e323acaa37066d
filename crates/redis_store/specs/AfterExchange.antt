-- How a call leaves a connection.
use Rattle.std.specs.Prelude.{◌≡◌, ◌⊎◌, ◌<◌, ◌≤◌, ℕ, ◌*◌, min, Bool, true, false}
use Rattle.redis_store.specs.declared.connection.Rest.{Rest}
use Rattle.redis_store.specs.declared.fault.ServerFault.{ServerFault}
use Rattle.redis_store.specs.declared.fault.LinkFault.{LinkFault}
use Rattle.redis_store.specs.declared.fault.LinkFault.TheVariants as link
use Rattle.redis_store.specs.declared.fault.ServerFault.TheVariants.{Resting, Link, Closed, Late, NoReply, NotAdmitted, NotOpened, Refused, Full, Replica, OtherReply, NoShare, NotShared, NoMemory}

-- for how many seconds the server is left alone the next time: twice as long, and at most 60
abbrev pub longer : ℕ → ℕ
longer seconds = min (2 * seconds) 60

-- A rest was begun, and the next one is twice as long.
pub record IsRestBegun (old new : Rest) : Type 0 where
  pub until : old.seconds ≤ new.until
  pub seconds : new.seconds ≡ longer old.seconds

-- that an error reply came to what was told, over a connection that is healthy
abbrev pub IsErrorReply : ServerFault → Type 0
IsErrorReply Refused = Unit {0}
IsErrorReply Full = Unit {0}
IsErrorReply _ = ⊥

-- An exchange went well: no rest is begun, and the next one is of a second.
abbrev pub IsWell : Rest → Rest → Type 0
IsWell old new = new ≡ record old { seconds = 1 }

-- that it is given by a reply which is none of those that were wanted, or by want of memory to take one
abbrev pub IsOfReply : ServerFault → Type 0
IsOfReply Refused = Unit {0}
IsOfReply Full = Unit {0}
IsOfReply Replica = Unit {0}
IsOfReply OtherReply = Unit {0}
IsOfReply NoMemory = Unit {0}
IsOfReply _ = ⊥

-- what a link's fault says of a server: where no byte of a reply came, and else
abbrev pub fault_before_reply : LinkFault → ServerFault
fault_before_reply link.Ended = Closed
fault_before_reply link.Late = Late

abbrev pub fault_in_reply : LinkFault → ServerFault
fault_in_reply link.Ended = Link
fault_in_reply link.Late = Late

-- that it is of the connection, of what came over it, or of what a new one was told
abbrev pub IsOfLink : ServerFault → Type 0
IsOfLink Link = Unit {0}
IsOfLink Closed = Unit {0}
IsOfLink Late = Unit {0}
IsOfLink NoReply = Unit {0}
IsOfLink OtherReply = Unit {0}
IsOfLink NotAdmitted = Unit {0}
IsOfLink NotOpened = Unit {0}
IsOfLink NoMemory = Unit {0}
IsOfLink _ = ⊥

-- that the connection is let go for it, and the server left alone where it isn't for want of memory
abbrev pub IsBreak : ServerFault → Type 0
IsBreak Resting = ⊥
IsBreak Refused = ⊥
IsBreak Full = ⊥
IsBreak Replica = ⊥
IsBreak NoShare = ⊥
IsBreak NotShared = ⊥
IsBreak _ = Unit {0}

-- What a fault leaves: whether a connection is open, and how long the server is left alone. An error reply begins no
-- rest, a call that asks nothing changes none, and a server of which no call failed is never left alone.
abbrev pub IsLeftAfter : ServerFault → Rest → Bool → Rest → Type 0
IsLeftAfter Refused old is_open new = (is_open ≡ true) × IsWell old new
IsLeftAfter Full old is_open new = (is_open ≡ true) × IsWell old new
IsLeftAfter Replica old is_open new = (is_open ≡ false) × IsWell old new
IsLeftAfter Resting old is_open new = (0 < old.until) × (is_open ≡ false) × (new ≡ old)
IsLeftAfter NoShare old is_open new = new ≡ old
IsLeftAfter NotShared old is_open new = new ≡ old
IsLeftAfter NoMemory old is_open new = Unit {0}
IsLeftAfter _ old is_open new = (is_open ≡ false) × IsRestBegun old new

-- What a fault leaves that may have come behind an exchange which went well.
abbrev pub IsLeftInTheEnd : ServerFault → Rest → Bool → Rest → Type 0
IsLeftInTheEnd fault old is_open new = (rest : Rest) × ((rest ≡ old) ⊎ IsWell old rest) × IsLeftAfter fault rest is_open new
