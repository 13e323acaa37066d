-- What a script is answered, where its commands get given replies.
use Rattle.std.specs.Prelude.{ℕ, ◌+◌, ◌&&◌, ◌||◌, not, ◌==◌, List, [], ◌∷◌, ◌++◌, length, Bool, true, false, if◌then◌else◌, Option, Some, None, codes}
use Rattle.gate_core.specs.declared.fault.GatewayFault.{GatewayFault}
use Rattle.gate_core.specs.declared.fault.GatewayFault.TheVariants.{Known, NotOpen, Cut, NoMemory, BadParameters, StillOpen}
use Rattle.grid.specs.declared.fault.GridFault.{GridFault}
use Rattle.grid.specs.declared.fault.GridFault.TheVariants as grid_fault
use Rattle.gate_tasks.specs.Text.{escaped}
use Rattle.gate_tasks.specs.Command.{command_of}
use Rattle.gate_tasks.specs.Lines.{Line, lines_of, line_bytes, is_within}
use Rattle.gate_tasks.specs.declared.command.Command.{Command}
use Rattle.gate_tasks.specs.declared.command.Command.TheVariants as command
use Rattle.gate_tasks.specs.declared.reply.Reply.{Reply}
use Rattle.gate_tasks.specs.declared.reply.Reply.TheVariants.{Done, Refused, GridRefused, Given, Imaged, Answered}
use Rattle.gate_tasks.specs.declared.fault.ScriptFault.{ScriptFault}
use Rattle.gate_tasks.specs.declared.fault.ScriptFault.TheVariants.{BadLine, TooLong}

-- ---- answer lines

-- the number and the name of a fault
abbrev pub fault_text : GatewayFault → List ℕ
fault_text Known = codes "1 Known"
fault_text NotOpen = codes "2 NotOpen"
fault_text Cut = codes "3 Cut"
fault_text NoMemory = codes "4 NoMemory"
fault_text BadParameters = codes "5 BadParameters"
fault_text StillOpen = codes "6 StillOpen"

abbrev pub grid_fault_text : GridFault → List ℕ
grid_fault_text (grid_fault.Full server) = codes "1 Full"
grid_fault_text (grid_fault.Down server) = codes "2 Down"
grid_fault_text grid_fault.NoServer = codes "3 NoServer"
grid_fault_text (grid_fault.BadImage place) = codes "4 BadImage"
grid_fault_text grid_fault.ReadFailed = codes "5 ReadFailed"
grid_fault_text grid_fault.WriteFailed = codes "6 WriteFailed"
grid_fault_text grid_fault.NoMemory = codes "7 NoMemory"

-- an answer line, with its LF
abbrev pub answer_text : Reply → List ℕ
answer_text Done = codes "ok" ++ 10 ∷ []
answer_text (Refused fault) = codes "fault " ++ fault_text fault ++ 10 ∷ []
answer_text (GridRefused fault) = codes "grid " ++ grid_fault_text fault ++ 10 ∷ []
answer_text (Given bytes) = codes "bytes " ++ escaped bytes ++ 10 ∷ []
answer_text (Imaged bytes) = codes "image " ++ escaped bytes ++ 10 ∷ []
answer_text (Answered true) = codes "yes" ++ 10 ∷ []
answer_text (Answered false) = codes "no" ++ 10 ∷ []

-- ---- steps

-- a command, and what it was answered
pub record Step : Type 0 where
  pub command : Command
  pub reply : Reply

abbrev pub is_grid : Command → Bool
is_grid (command.Grid grid) = true
is_grid _ = false

abbrev pub is_restore : Command → Bool
is_restore (command.Restore image) = true
is_restore _ = false

-- a call of a gateway that there is
abbrev pub is_call : Command → Bool
is_call (command.Call call) = true
is_call _ = false

abbrev pub is_refusal : Reply → Bool
is_refusal (Refused fault) = true
is_refusal (GridRefused fault) = true
is_refusal _ = false

-- whether a command may stand after these steps: `grid` first and nowhere else, and `restore` only just after it
abbrev pub may_stand : List Step → Command → Bool
may_stand [] asked = is_grid asked
may_stand (step ∷ []) asked = not (is_grid asked)
may_stand (step ∷ next ∷ more) asked = is_call asked

abbrev pub allowed : List Step → Option Command → Option Command
allowed log None = None
allowed log (Some asked) = if may_stand log asked then Some asked else None

-- a run has no gateway after a refused `grid` or `restore`, and ends there
abbrev pub ends_run : Step → Bool
ends_run step = (is_grid step.command || is_restore step.command) && is_refusal step.reply

-- ---- what a script comes to

-- how a run ends: with the script, at a line for which no reply is given, or by a fault of the script
pub data End : Type 0 where
  Ended : End
  Unanswered : End
  Stopped : (fault : ScriptFault) → End

-- the steps so far, and the replies that the next commands get
pub record Run : Type 0 where
  pub log : List Step
  pub replies : List Reply

-- what is written, all steps, and the end
pub record ScriptOutput : Type 0 where
  pub text : List ℕ
  pub log : List Step
  pub end : End

abbrev pub after_text : List ℕ → ScriptOutput → ScriptOutput
after_text text script_output = record { text = text ++ script_output.text; log = script_output.log; end = script_output.end }

-- a step's answer, and then what the lines after it come to, if the run goes on
abbrev pub stepped : Bool → ℕ → Reply → Run → (Run → ScriptOutput) → ScriptOutput
stepped true number reply after more = record { text = answer_text reply; log = after.log; end = Stopped (BadLine number) }
stepped false number reply after more = after_text (answer_text reply) (more after)

abbrev pub with_step : Run → Step → List Reply → Run
with_step run step replies = record { log = run.log ++ step ∷ []; replies = replies }

-- what a command comes to, by the first of the replies
abbrev pub replied : ℕ → Run → Command → List Reply → (Run → ScriptOutput) → ScriptOutput
replied number run asked [] more = record { text = []; log = run.log; end = Unanswered }
replied number run asked (reply ∷ replies) more =
    let step : Step = record { command = asked; reply = reply } in
    stepped (ends_run step) number reply (with_step run step replies) more

abbrev pub asked_for : ℕ → Run → Option Command → (Run → ScriptOutput) → ScriptOutput
asked_for number run None more = record { text = []; log = run.log; end = Stopped (BadLine number) }
asked_for number run (Some asked) more = replied number run asked run.replies more

-- what a line comes to: one that is over a limit ends the run, and an empty one is skipped
abbrev pub told_at : Bool → Bool → ℕ → Run → List ℕ → (Run → ScriptOutput) → ScriptOutput
told_at false is_empty number run line more = record { text = []; log = run.log; end = Stopped TooLong }
told_at true true number run line more = more run
told_at true false number run line more = asked_for number run (allowed run.log (command_of line)) more

-- what lines come to, of which the first has this number, after so many bytes of the script
abbrev pub script_output : ℕ → ℕ → Run → List Line → ScriptOutput
script_output number read run [] = record { text = []; log = run.log; end = Ended }
script_output number read run (line ∷ lines) =
    told_at (is_within read line) (length line.bytes == 0) number run line.bytes (λ after. script_output (number + 1) (read + length (line_bytes line)) after lines)

-- what a script comes to whose commands get these replies
abbrev pub written_by : List ℕ → List Reply → ScriptOutput
written_by script replies = script_output 1 0 (record { log = []; replies = replies }) (lines_of script)
