-- What a run does to a gateway, a reader and a writer.
use Rattle.std.specs.Prelude.{◌≡◌, ◌≤◌, ◌⊎◌, ℕ, List, [], ◌∷◌, ◌++◌, length, true, false, Option, Some, None, Result, Ok, Err, is_none, IfSome, OnSome, ⊤}
use Rattle.std.specs.Io.{StopsAt, IsEmptyOrEndsWith}
use Rattle.std.specs.Io.KnownBytes.{Consumes, Appends, IsAtEnd}
use Rattle.octets.specs.Sharing.{IsSharing}
use Rattle.octets.specs.Written.{WritesBeginning}
use Rattle.gate_core.specs.Events.{Event}
use Rattle.gate_core.specs.ConnectionState.{State}
use Rattle.gate_core.specs.Came.{Opening, Came}
use Rattle.gate_tasks.specs.Command.{command_of}
use Rattle.gate_tasks.specs.Lines.{LacksLf}
use Rattle.gate_tasks.specs.Script.{Step, End, Ended, Stopped, may_stand, allowed, ends_run, answer_text, written_by}
use Rattle.gate_tasks.specs.Replies.{settings_by, IsOpening, IsCalm, IsScriptReply, event_by, events_of, calls_in, AreTold}
use Rattle.gate_tasks.specs.declared.command.Command.{Command}
use Rattle.gate_tasks.specs.declared.command.Command.TheVariants as command
use Rattle.gate_tasks.specs.declared.command.Call.{Call}
use Rattle.gate_tasks.specs.declared.command.Grid.{Grid}
use Rattle.gate_tasks.specs.declared.reply.Reply.{Reply}
use Rattle.gate_tasks.specs.declared.reply.Reply.TheVariants.{Done}
use Rattle.gate_tasks.specs.declared.fault.ScriptFault.{ScriptFault}
use Rattle.gate_tasks.specs.declared.fault.ScriptFault.TheVariants.{BadLine, ReadFailed, WriteFailed, NoMemory, TooLong}

-- ---- where a run is

-- The gateway was set up so, any k of its n shares are enough, and it came from these calls where the stores have the room.
-- for private clauses
pub record CameAfter (grid : Grid) (log : List Step) (g : State) : Type 0 where
  pub settings : g.settings ≡ settings_by grid
  pub sharing : IsSharing grid.k grid.n
  pub as_written : (opening : Opening) → IsOpening grid log opening → IsCalm grid opening (events_of grid (calls_in log)) → Came opening g (events_of grid (calls_in log))

-- for private clauses
abbrev pub CameFrom : Command → List Step → State → Type 0
CameFrom (command.Grid grid) log g = CameAfter grid log g
CameFrom _ log g = ⊥

-- for private clauses
abbrev pub CameBy : List Step → State → Type 0
CameBy [] g = ⊥
CameBy (step ∷ log) g = CameFrom step.command log g

-- After these steps there is this gateway; the parameters are at hand while `restore` may stand; for private clauses.
abbrev pub IsProgress : List Step → Option Grid → Option State → Type 0
IsProgress log None None = log ≡ []
IsProgress log None (Some g) = (2 ≤ length log) × CameBy log g
IsProgress log (Some grid) None = ⊥
IsProgress log (Some grid) (Some g) = (log ≡ record { command = command.Grid grid; reply = Done } ∷ []) × CameBy log g

-- this call was carried out, with this reply; for private clauses
pub record IsCalled (old new : State) (asked : Call) (reply : Reply) : Type 0 where
  pub settings : new.settings ≡ old.settings
  pub told : (grid : Grid) (opening : Opening) (events : List Event) → old.settings ≡ settings_by grid → IsSharing grid.k grid.n → Came opening old events → IsScriptReply grid opening events asked reply
  pub came : (grid : Grid) (opening : Opening) (events : List Event) → old.settings ≡ settings_by grid → Came opening old events → IsCalm grid opening (events ++ event_by grid asked reply)
      → Came opening new (events ++ event_by grid asked reply)

-- what a step leads to; for private clauses
pub record IsAnswer (log : List Step) (step : Step) (grid : Option Grid) (gateway : Option State) : Type 0 where
  pub stands : may_stand log step.command ≡ true
  pub told : AreTold (log ++ step ∷ [])
  pub ends : ends_run step ≡ is_none gateway
  pub at : ends_run step ≡ false → IsProgress (log ++ step ∷ []) grid gateway

-- the reply to a command, if it may stand there; for private clauses
abbrev pub Answered : List Step → Command → Option Reply → Option Grid → Option State → Type 0
Answered log asked None grid gateway = may_stand log asked ≡ false
Answered log asked (Some reply) grid gateway = IsAnswer log (record { command = asked; reply = reply }) grid gateway

-- ---- a line

-- the command of a line, which may stand after these steps, was answered; for private clauses
pub record IsCommandAnswered (log : List Step) (line : List ℕ) (step : Step) : Type 0 where
  pub asked : allowed log (command_of line) ≡ Some step.command
  pub told : AreTold (log ++ step ∷ [])

-- a line was answered, and the run goes on; for private clauses
pub record RunGoesOn (log : List Step) (line : List ℕ) (grid : Option Grid) (gateway : Option State) (old new : Option (List ℕ)) : Type 0 where
  pub step : Step
  pub is : IsCommandAnswered log line step
  pub goes : ends_run step ≡ false
  pub at : IsProgress (log ++ step ∷ []) grid gateway
  pub written : Appends old new (answer_text step.reply)

-- a line was answered, and the run ends; for private clauses
pub record EndsAt (log : List Step) (line : List ℕ) (old new : Option (List ℕ)) : Type 0 where
  pub step : Step
  pub is : IsCommandAnswered log line step
  pub ends : ends_run step ≡ true
  pub written : Appends old new (answer_text step.reply)

-- a line is no command that may stand there; for private clauses
pub record IsBad (log : List Step) (line : List ℕ) (old new : Option (List ℕ)) : Type 0 where
  pub asked : allowed log (command_of line) ≡ None
  pub written : Appends old new []

-- a beginning of a line's answer was written; for private clauses
pub record WritesPart (log : List Step) (line : List ℕ) (old new : Option (List ℕ)) : Type 0 where
  pub step : Step
  pub is : IsCommandAnswered log line step
  pub written : WritesBeginning (answer_text step.reply) old new

-- what came of the line with this number; for private clauses
abbrev pub LineRuns : List Step → ℕ → List ℕ → Option Grid → Option State → Option (List ℕ) → Option (List ℕ) → Result (Unit {0}) ScriptFault → Type 0
LineRuns log number line grid gateway old new (Ok done) = RunGoesOn log line grid gateway old new
LineRuns log number line grid gateway old new (Err (BadLine n)) = (n ≡ number) × (IsBad log line old new ⊎ EndsAt log line old new)
LineRuns log number line grid gateway old new (Err ReadFailed) = ⊥
LineRuns log number line grid gateway old new (Err WriteFailed) = WritesPart log line old new
LineRuns log number line grid gateway old new (Err NoMemory) = Appends old new []
LineRuns log number line grid gateway old new (Err TooLong) = ⊥

-- ---- a script

-- no LF stands there but at the end
abbrev pub IsOneLine : List ℕ → Type 0
IsOneLine part = StopsAt part 10

-- A run stopped at a line of which `part` was read, after the lines `before`: their answers are written.
pub record StopsAfter (P : List ℕ → Type 0) (read left old new : Option (List ℕ)) : Type 0 where
  pub before : List ℕ
  pub part : List ℕ
  pub taken : Consumes read left (before ++ part)
  pub whole : IsEmptyOrEndsWith before 10
  pub stop : P part
  pub replies : List Reply
  pub told : AreTold (written_by before replies).log
  pub good : (written_by before replies).end ≡ Ended
  pub written : Appends old new (written_by before replies).text

-- the script's run ended so: its answers are written
pub record Answers (script : List ℕ) (old new : Option (List ℕ)) (end : End) : Type 0 where
  pub replies : List Reply
  pub told : AreTold (written_by script replies).log
  pub ends : (written_by script replies).end ≡ end
  pub written : Appends old new (written_by script replies).text

-- what was written is a beginning of the script's answers
pub record AnswersSome (script : List ℕ) (old new : Option (List ℕ)) : Type 0 where
  pub replies : List Reply
  pub told : AreTold (written_by script replies).log
  pub written : WritesBeginning (written_by script replies).text old new

-- what is known at the end of a run; for private clauses
abbrev pub RunEnds : Option (List ℕ) → Option (List ℕ) → Option (List ℕ) → Option (List ℕ) → Result (Unit {0}) ScriptFault → Type 0
RunEnds read left old new (Ok done) = IfSome read (λ script. Answers script old new Ended) × OnSome read (IsAtEnd left)
RunEnds read left old new (Err (BadLine number)) = IfSome read (λ script. Answers script old new (Stopped (BadLine number)))
RunEnds read left old new (Err ReadFailed) = StopsAfter LacksLf read left old new
RunEnds read left old new (Err WriteFailed) = ⊤
RunEnds read left old new (Err NoMemory) = StopsAfter IsOneLine read left old new
RunEnds read left old new (Err TooLong) = IfSome read (λ script. Answers script old new (Stopped TooLong))
