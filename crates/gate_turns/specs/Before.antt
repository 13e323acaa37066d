-- How many others have their turns before a connection has its own.
use Rattle.std.specs.Prelude.{◌≡◌, ℕ, ◌+◌, ◌-◌, ◌*◌, ◌⊎◌, min, List, [], ◌∷◌, ◌++◌}
use Rattle.gate_turns.specs.declared.seat.Lane.{Lane}
use Rattle.gate_turns.specs.declared.seat.Lane.TheVariants.{Quick, Fresh, Slow}
use Rattle.gate_turns.specs.Lanes.{LanesState, AreBounded, queue_of, turns_due, lanes_with, lanes_at_round, lanes_cut_short, HasTurn}

-- A connection stands in a lane, behind these.
pub record StandsBehind (lane : Lane) (id : ℕ) (ahead : List ℕ) (s : LanesState) : Type 0 where
  pub behind : List ℕ
  pub is : queue_of lane s ≡ ahead ++ id ∷ behind

-- how many rounds begin before one that stands behind so many of its lane has its turn, at most
abbrev pub rounds_before : Lane → ℕ → LanesState → ℕ
rounds_before Quick n s = min 1 (n + 1 - s.due_quick)
rounds_before Fresh n s = n + 1 - s.due_first
rounds_before Slow n s = n + 1 - s.due_slow

-- how many turns others have before it, at most: those that are left in this round, and those of each further one, of
-- which there are no more than there is room for
abbrev pub turns_before : Lane → ℕ → LanesState → ℕ
turns_before lane n s = rounds_before lane n s * s.room + turns_due s

-- What happens to the lanes: a connection is put behind those of one, a round begins, the fresh ones have no more turns in
-- it, and a connection has its turn.
pub data Happening : Type 0 where
  Queues : (lane : Lane) → (id : ℕ) → Happening
  Begins : Happening
  Shortens : Happening
  Turns : (lane : Lane) → (id : ℕ) → Happening

-- it happens to lanes that stand so, and leaves them so
abbrev pub Happens : Happening → LanesState → LanesState → Type 0
Happens (Queues lane id) old new = new ≡ lanes_with lane id old
Happens Begins old new = (turns_due old ≡ 0) × (new ≡ lanes_at_round old)
Happens Shortens old new = new ≡ lanes_cut_short old
Happens (Turns lane id) old new = HasTurn lane id old new

-- these happen one after the other
abbrev pub Course : List Happening → LanesState → LanesState → Type 0
Course [] old new = new ≡ old
Course (h ∷ hs) old new = (mid : LanesState) × AreBounded old × Happens h old mid × Course hs mid new

-- how many turns are had in these
abbrev pub turns_in : List Happening → ℕ
turns_in [] = 0
turns_in (Queues lane id ∷ hs) = turns_in hs
turns_in (Begins ∷ hs) = turns_in hs
turns_in (Shortens ∷ hs) = turns_in hs
turns_in (Turns lane id ∷ hs) = turns_in hs + 1

-- a connection has its turn in these
abbrev pub HasTurnIn : ℕ → List Happening → Type 0
HasTurnIn id [] = ⊥
HasTurnIn id (Queues lane other ∷ hs) = HasTurnIn id hs
HasTurnIn id (Begins ∷ hs) = HasTurnIn id hs
HasTurnIn id (Shortens ∷ hs) = HasTurnIn id hs
HasTurnIn id (Turns lane other ∷ hs) = (other ≡ id) ⊎ HasTurnIn id hs
