-- What turns do to a flow, a gateway and their streams.
use Rattle.std.specs.Prelude.{ℕ, ◌≤◌, List, length, Option}
use Rattle.std.specs.Io.KnownBytes.{Consumes}
use Rattle.gate_core.specs.ConnectionState.{State}
use Rattle.gate_flow.specs.declared.fault.FlowFault.{FlowFault}
use Rattle.gate_flow.specs.State.{FlowState}
use Rattle.gate_flow.specs.Run.{HasRun, HasRunAsWritten}
use Rattle.gate_flow.specs.Served.{FlowStopsAt}

-- how many bytes are read of a connection, at most: 65,536 at a time, 1,048,576 times; for private clauses
abbrev pub most_at_a_time : ℕ
most_at_a_time = 65536

abbrev pub most_read : ℕ
most_read = 68719476736

-- of the bytes that were to come, no more than so many were read
pub record IsReadWithin (most : ℕ) (read left : Option (List ℕ)) : Type 0 where
  pub bytes : List ℕ
  pub taken : Consumes read left bytes
  pub within : length bytes ≤ most

-- a flow that ran calmly up to here runs so up to there, wherever it was opened; for private clauses
abbrev pub RunsOn : FlowState → FlowState → State → State → Option (List ℕ) → Option (List ℕ) → Option (List ℕ) → Option (List ℕ) → Type 0
RunsOn f f2 g g2 left left2 after after2 =
    (id : ℕ) (secret : List ℕ) (first : State) (read before : Option (List ℕ)) → HasRunAsWritten id secret first g f read left before after → HasRunAsWritten id secret first g2 f2 read left2 before after2

-- or it runs up to there and stops at a fault; for private clauses
abbrev pub RunsInto : FlowFault → FlowState → FlowState → State → State → Option (List ℕ) → Option (List ℕ) → Option (List ℕ) → Option (List ℕ) → Type 0
RunsInto fault f f2 g g2 left left2 after after2 =
    (id : ℕ) (secret : List ℕ) (first : State) (read before : Option (List ℕ)) → HasRunAsWritten id secret first g f read left before after → HasRun id secret first g2 f2 read left2 before after2 × FlowStopsAt fault f2 g2
