-- The lanes in which connections wait for their turns.
use Rattle.std.specs.Prelude.{◌≡◌, ℕ, ◌+◌, ◌-◌, ◌<◌, ◌≤◌, min, List, [], ◌∷◌, ◌++◌, length}
use Rattle.gate_turns.specs.declared.seat.Lane.{Lane}
use Rattle.gate_turns.specs.declared.seat.Lane.TheVariants.{Quick, Fresh, Slow}

-- who stands in each lane, the first one first; for how many there is room in all; and how many of each lane still have
-- their turns in this round: quick ones, the first fresh one, other fresh ones and slow ones
pub record LanesState : Type 0 where
  pub quick : List ℕ
  pub fresh : List ℕ
  pub slow : List ℕ
  pub room : ℕ
  pub due_quick : ℕ
  pub due_first : ℕ
  pub due_fresh : ℕ
  pub due_slow : ℕ

-- nobody stands anywhere
abbrev pub empty_lanes : ℕ → LanesState
empty_lanes room = record { quick = []; fresh = []; slow = []; room = room; due_quick = 0; due_first = 0; due_fresh = 0; due_slow = 0 }

-- who stands in a lane
abbrev pub queue_of : Lane → LanesState → List ℕ
queue_of Quick s = s.quick
queue_of Fresh s = s.fresh
queue_of Slow s = s.slow

-- how many have a turn to come
abbrev pub queued_count : LanesState → ℕ
queued_count s = length s.quick + length s.fresh + length s.slow

-- how many turns are left in this round
abbrev pub turns_due : LanesState → ℕ
turns_due s = s.due_quick + s.due_first + s.due_fresh + s.due_slow

-- True of all lanes: no more stand there than there is room for, and no more turns are due than there are who stand there.
pub record AreBounded (s : LanesState) : Type 0 where
  pub within : queued_count s ≤ s.room
  pub quick : s.due_quick ≤ length s.quick
  pub first : s.due_first ≤ 1
  pub fresh : s.due_first + s.due_fresh ≤ length s.fresh
  pub slow : s.due_slow ≤ min 1 (length s.slow)

-- the lanes after a connection was put behind those of one
abbrev pub lanes_with : Lane → ℕ → LanesState → LanesState
lanes_with Quick id s = record s { quick = s.quick ++ id ∷ [] }
lanes_with Fresh id s = record s { fresh = s.fresh ++ id ∷ [] }
lanes_with Slow id s = record s { slow = s.slow ++ id ∷ [] }

-- The lanes as a round begins: each quick one has its turn in it, and so have the fresh ones and the first slow one.
abbrev pub lanes_at_round : LanesState → LanesState
lanes_at_round s = record s { due_quick = length s.quick; due_first = min 1 (length s.fresh); due_fresh = length s.fresh - min 1 (length s.fresh); due_slow = min 1 (length s.slow) }

-- the lanes after a long step of a fresh one: the other fresh ones have no turn in this round
abbrev pub lanes_cut_short : LanesState → LanesState
lanes_cut_short s = record s { due_fresh = 0 }

-- The first one of a lane has its turn: quick ones come first, then fresh ones, then the slow one.
abbrev pub HasTurn : Lane → ℕ → LanesState → LanesState → Type 0
HasTurn Quick id old new = (old.quick ≡ id ∷ new.quick) × (0 < old.due_quick) × (new ≡ record old { quick = new.quick; due_quick = old.due_quick - 1 })
HasTurn Fresh id old new = (old.fresh ≡ id ∷ new.fresh) × (old.due_quick ≡ 0) × (0 < old.due_first + old.due_fresh) × (new ≡ record old { fresh = new.fresh; due_first = 0; due_fresh = old.due_fresh - (1 - old.due_first) })
HasTurn Slow id old new = (old.slow ≡ id ∷ new.slow) × (old.due_quick ≡ 0) × (old.due_first ≡ 0) × (old.due_fresh ≡ 0) × (0 < old.due_slow) × (new ≡ record old { slow = new.slow; due_slow = old.due_slow - 1 })
