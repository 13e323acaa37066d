-- What serving a connection by a flow comes to.
use Rattle.std.specs.Prelude.{◌≡◌, ◌≢◌, ℕ, List, [], ◌++◌, ◌⊎◌, ⊤, true, Option, None}
use Rattle.std.specs.Io.KnownBytes.{Consumes, Appends}
use Rattle.http_edge.specs.FramingState.{rest, is_closed as is_left_closed}
use Rattle.gate_core.specs.Events.{Event, bytes_of_calls, handed, has_ended}
use Rattle.gate_core.specs.ConnectionState.{State, connection_at, waiting, bytes_refusal}
use Rattle.gate_core.specs.Faithful.{Faithful}
use Rattle.gate_flow.specs.declared.fault.FlowFault.{FlowFault}
use Rattle.gate_flow.specs.declared.fault.FlowFault.TheVariants.{Refused, ReadFailed, WriteFailed, NoMemory}
use Rattle.gate_flow.specs.declared.want.Want.TheVariants.{Read}
use Rattle.gate_flow.specs.State.{FlowState}
use Rattle.gate_flow.specs.Led.{AreOf, AreTimely, IsLed, IsLedAsWritten}
use Rattle.gate_flow.specs.Steps.{Rests}
use Rattle.gate_flow.specs.Run.{Opens}

-- A connection was opened, called for and given up by these calls, all of its own id. Each piece was brought while no item
-- that closes stood before it. What was read are the bytes that they brought and then these, and what they handed out are
-- the bytes that were written and then these.
pub record HasStopped (id : ℕ) (secret : List ℕ) (old new : State) (read left before after : Option (List ℕ)) (unbrought unwritten : List ℕ) : Type 0 where
  pub calls : List Event
  pub opens : Opens id secret calls
  pub own : AreOf id calls
  pub timely : (events : List Event) → Faithful old events → AreTimely id events calls
  pub led : IsLed id calls old new
  pub taken : Consumes read left (bytes_of_calls id calls ++ unbrought)
  pub out : List ℕ
  pub put : Appends before after out
  pub handed_out : handed id calls ≡ out ++ unwritten
  pub over : bytes_refusal (connection_at new id) ≢ None

-- an item that closes was completed by what these calls brought
abbrev pub IsClosedBy : ℕ → State → List Event → Type 0
IsClosedBy id old calls = (events : List Event) → Faithful old events → is_left_closed (rest (bytes_of_calls id (events ++ calls))) ≡ true

-- It was served: its end was the last that it brought, all that was handed out was written, and nothing waits. What was read
-- and not brought stands behind an item that closes.
pub record IsServed (id : ℕ) (secret : List ℕ) (old new : State) (read left before after : Option (List ℕ)) : Type 0 where
  pub unbrought : List ℕ
  pub stopped : HasStopped id secret old new read left before after unbrought []
  pub as_written : IsLedAsWritten stopped.calls old new
  pub ended : has_ended id stopped.calls ≡ true
  pub behind : (unbrought ≡ []) ⊎ IsClosedBy id old stopped.calls
  pub all : waiting new id ≡ []

-- nothing was called, read or written
abbrev pub IsUntouched : State → State → Option (List ℕ) → Option (List ℕ) → Option (List ℕ) → Option (List ℕ) → Type 0
IsUntouched old new read left before after = (new ≡ old) × (left ≡ read) × (after ≡ before)

-- It was served until a fault. Where the connection was refused, nothing was done. Where it could not be read further, all
-- that was read was brought and all that was handed out was written; where it could not be written to, some of that wasn't.
abbrev pub IsFlowStopped : FlowFault → ℕ → List ℕ → State → State → Option (List ℕ) → Option (List ℕ) → Option (List ℕ) → Option (List ℕ) → Type 0
IsFlowStopped Refused id secret old new read left before after = IsUntouched old new read left before after
IsFlowStopped ReadFailed id secret old new read left before after = HasStopped id secret old new read left before after [] []
IsFlowStopped WriteFailed id secret old new read left before after =
    (unbrought : List ℕ) × (unwritten : List ℕ) × (unwritten ≢ []) × HasStopped id secret old new read left before after unbrought unwritten
IsFlowStopped NoMemory id secret old new read left before after =
    IsUntouched old new read left before after ⊎ ((unbrought : List ℕ) × (unwritten : List ℕ) × HasStopped id secret old new read left before after unbrought unwritten)

-- where a flow that runs stops at a fault: no call of its own is refused
abbrev pub FlowStopsAt : FlowFault → FlowState → State → Type 0
FlowStopsAt Refused f g = ⊥
FlowStopsAt ReadFailed f g = (f.want ≡ Read) × Rests f g
FlowStopsAt WriteFailed f g = f.portion ≢ []
FlowStopsAt NoMemory f g = ⊤
