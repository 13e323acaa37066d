-- The parts that one call for a flow brings of its piece.
use Rattle.std.specs.Prelude.{◌≡◌, ◌≢◌, ◌⊎◌, ℕ, List, [], ◌∷◌, ◌++◌, take, drop, false, IsTrue, Option}
use Rattle.gate_core.specs.Events.{Event, Bytes, bytes_of_calls}
use Rattle.gate_core.specs.ConnectionState.{ConnectionState, State, connection_at, waiting, waiting_in, is_closed_in}
use Rattle.gate_core.specs.Kept.{bytes_of_body_in}
use Rattle.gate_flow.specs.Parts.{IsFeedPart}
use Rattle.gate_flow.specs.Led.{IsLed, IsLedAsWritten}

-- A call brought a part: the first bytes of what was left of a piece, cut where IsFeedPart says. It came while nothing waited
-- for the connection and more bytes counted, and it led from one state of a gateway to another.
pub record IsBrought (id : ℕ) (e : Event) (g h : State) (piece left : List ℕ) : Type 0 where
  pub size : ℕ
  pub cut : IsFeedPart (bytes_of_body_in (connection_at g id) piece) piece size
  pub call : e ≡ Bytes id (take size piece)
  pub rest : left ≡ drop size piece
  pub quiet : waiting g id ≡ []
  pub going : is_closed_in (connection_at g id) ≡ false
  pub led : IsLed id (e ∷ []) g h
  pub as_written : IsLedAsWritten (e ∷ []) g h

-- so did each of these, one after the other
abbrev pub AreBrought : ℕ → List Event → State → State → List ℕ → List ℕ → Type 0
AreBrought id [] g h piece left = (h ≡ g) × (left ≡ piece)
AreBrought id (e ∷ parts) g h piece left = (m : State) × (behind : List ℕ) × IsBrought id e g m piece behind × AreBrought id parts m h behind left

-- These calls first brought a piece in parts, of which these bytes are left, and then nothing more.
pub record AreInParts (id : ℕ) (calls : List Event) (g h : State) (piece left : List ℕ) : Type 0 where
  pub parts : List Event
  pub others : List Event
  pub all : calls ≡ parts ++ others
  pub at : State
  pub brought : AreBrought id parts g at piece left
  pub after : IsLed id others at h
  pub bare : bytes_of_calls id others ≡ []

-- no further part is brought: the piece is used up, something waits, or no more bytes count
abbrev pub IsEnough : List ℕ → Option ConnectionState → Type 0
IsEnough left held = (left ≡ []) ⊎ ((waiting_in held ≢ []) ⊎ IsTrue (is_closed_in held))
