-- What a flow's calls came to since it was opened.
use Rattle.std.specs.Prelude.{◌≡◌, ℕ, true, List, ◌∷◌, Option}
use Rattle.std.specs.Io.KnownBytes.{Consumes, Appends, IsAtEnd}
use Rattle.gate_core.specs.Events.{Event, Open}
use Rattle.gate_core.specs.ConnectionState.{State, connection_at}
use Rattle.gate_core.specs.Faithful.{Faithful}
use Rattle.gate_flow.specs.State.{FlowState}
use Rattle.gate_flow.specs.Led.{AreOf, TakesBytes, AreTimely, IsLed, IsLedAsWritten}
use Rattle.gate_flow.specs.Flowed.{Flowed}

-- these calls begin with the one that opened a connection, with this secret
abbrev pub Opens : ℕ → List ℕ → List Event → Type 0
Opens id secret calls = (more : List Event) × (calls ≡ Open id secret ∷ more)

-- A flow was opened in one state of a gateway and called for until another, while a reader and a writer went from what they
-- had to what they have: the calls are of its own id, and the flow stands where it does after them. Its input ended only
-- where the reader has none left.
pub record HasRun (id : ℕ) (secret : List ℕ) (g h : State) (f : FlowState) (read left before after : Option (List ℕ)) : Type 0 where
  pub same : f.id ≡ id
  pub calls : List Event
  pub opens : Opens id secret calls
  pub own : AreOf id calls
  pub timely : (events : List Event) → Faithful g events → AreTimely id events calls
  pub led : IsLed id calls g h
  pub bytes : List ℕ
  pub out : List ℕ
  pub flowed : Flowed f calls bytes out
  pub taken : Consumes read left bytes
  pub put : Appends before after out
  pub input : f.ended ≡ true → IsAtEnd left

-- No call was refused: each reply is the written answer too, and the gateway takes bytes of the connection still.
pub record HasRunAsWritten (id : ℕ) (secret : List ℕ) (g h : State) (f : FlowState) (read left before after : Option (List ℕ)) : Type 0 where
  pub run : HasRun id secret g h f read left before after
  pub as_written : IsLedAsWritten run.calls g h
  pub takes : TakesBytes (connection_at h id)
