-- How far a run came.
use Rattle.std.proofs.Common.{◌≡◌, ℕ, ◌+◌, ◌≤◌, List, [], ◌∷◌, ◌++◌, length, Bool, true, false, Option, Some, None, refl, sym, ap, ◌∙◌, append_assoc, length-append, arith}
use Rattle.std.specs.Prelude.{◌==◌}
use Rattle.std.specs.Io.{IsEmptyOrEndsWith}
use Rattle.std.specs.Io.KnownBytes.{Consumes, Appends}
use Rattle.std.proofs.KnownBytes.{Consumes-nil, Consumes-trans, Appends-nil, Appends-trans}
use Rattle.std.proofs.lemmas.Bool.Decides.{nat_tests}
use Rattle.gate_core.specs.ConnectionState.{State}
use Rattle.gate_tasks.specs.Command.{command_of}
use Rattle.gate_tasks.specs.Lines.{Line, lines_of, line_bytes, fits, is_within}
use Rattle.gate_tasks.specs.Reading.{ReadsLine}
use Rattle.gate_tasks.specs.Script.{Step, Run, ScriptOutput, allowed, ends_run, answer_text, after_text, stepped, asked_for, told_at, script_output, written_by}
use Rattle.gate_tasks.specs.Replies.{AreTold}
use Rattle.gate_tasks.specs.Running.{IsProgress, RunGoesOn}
use Rattle.gate_tasks.specs.declared.command.Command.{Command}
use Rattle.gate_tasks.specs.declared.command.Grid.{Grid}
use Rattle.gate_tasks.specs.declared.reply.Reply.{Reply}
use Rattle.gate_tasks.proofs.LineLists.{lines_ended, ends_whole}

-- the lines `done` were read and answered
pub record Stands (read0 read1 write0 write1 : Option (List ℕ)) (grid : Option Grid) (gateway : Option State) (number size : ℕ) : Type 0 where
  pub done : List ℕ
  pub replies : List Reply
  pub text : List ℕ
  pub log : List Step
  pub taken : Consumes read0 read1 done
  pub whole : IsEmptyOrEndsWith done 10
  pub written : Appends write0 write1 text
  pub goes : (rest : List ℕ) (more : List Reply) → written_by (done ++ rest) (replies ++ more) ≡ after_text text (script_output number size (record { log = log; replies = more }) (lines_of rest))
  pub at : IsProgress log grid gateway
  pub told : AreTold log
  pub sized : length done ≡ size
  pub within : size ≤ 268435456
  pub counted : number ≤ size + 1

pub stands_first : (r w : Option (List ℕ)) → Stands r r w w None None 1 0
stands_first r w = record {
  done = [];
  replies = [];
  text = [];
  log = [];
  taken = Consumes-nil r;
  whole = λ some. absurd (omega arith);
  written = Appends-nil w;
  goes = λ rest more. refl;
  at = refl;
  told = tt;
  sized = refl;
  within = omega arith;
  counted = omega arith;
}

after_after : (one two : List ℕ) (t : ScriptOutput) → after_text one (after_text two t) ≡ after_text (one ++ two) t
after_after one two t = ap (λ l. record { text = l; log = t.log; end = t.end }) (sym (append_assoc one two t.text))

-- a line that is within its limits
told_line : (number size : ℕ) (run : Run) (line : Line) (lines : List Line) → is_within size line ≡ true
    → script_output number size run (line ∷ lines)
    ≡ told_at true (length line.bytes == 0) number run line.bytes (λ after. script_output (number + 1) (size + length (line_bytes line)) after lines)
told_line number size run line lines within =
    ap (λ t. told_at t (length line.bytes == 0) number run line.bytes (λ after. script_output (number + 1) (size + length (line_bytes line)) after lines)) within

pub told_empty : (number size : ℕ) (run : Run) (line : Line) (lines : List Line) → is_within size line ≡ true → (length line.bytes == 0) ≡ true
    → script_output number size run (line ∷ lines) ≡ script_output (number + 1) (size + length (line_bytes line)) run lines
told_empty number size run line lines within empty =
    told_line number size run line lines within
    ∙ ap (λ t. told_at true t number run line.bytes (λ after. script_output (number + 1) (size + length (line_bytes line)) after lines)) empty

pub told_some : (number size : ℕ) (run : Run) (line : Line) (lines : List Line) (asked : Option Command) → is_within size line ≡ true → (length line.bytes == 0) ≡ false → allowed run.log (command_of line.bytes) ≡ asked
    → script_output number size run (line ∷ lines) ≡ asked_for number run asked (λ after. script_output (number + 1) (size + length (line_bytes line)) after lines)
told_some number size run line lines asked within some is =
    told_line number size run line lines within
    ∙ ap (λ t. told_at true t number run line.bytes (λ after. script_output (number + 1) (size + length (line_bytes line)) after lines)) some
    ∙ ap (λ a. asked_for number run a (λ after. script_output (number + 1) (size + length (line_bytes line)) after lines)) is

-- the step of a line, and whether the run ends with it
pub told_step : (number size : ℕ) (log : List Step) (line : Line) (lines : List Line) (step : Step) (more : List Reply) (ends : Bool)
    → is_within size line ≡ true → (length line.bytes == 0) ≡ false → allowed log (command_of line.bytes) ≡ Some step.command → ends_run step ≡ ends
    → script_output number size (record { log = log; replies = step.reply ∷ more }) (line ∷ lines)
    ≡ stepped ends number step.reply (record { log = log ++ step ∷ []; replies = more }) (λ after. script_output (number + 1) (size + length (line_bytes line)) after lines)
told_step number size log line lines step more ends within some is stops =
    told_some number size (record { log = log; replies = step.reply ∷ more }) line lines (Some step.command) within some is
    ∙ ap (λ e. stepped e number step.reply (record { log = log ++ step ∷ []; replies = more }) (λ after. script_output (number + 1) (size + length (line_bytes line)) after lines)) stops

module _ (r0 r1 r2 w0 w1 : Option (List ℕ)) (grid : Option Grid) (gateway : Option State) (number size : ℕ) (s : Stands r0 r1 w0 w1 grid gateway number size) where
  -- ---- one more line, which an LF ends

  goes_on : (w2 : Option (List ℕ)) (grid2 : Option Grid) (after : Option State) (line text : List ℕ) (log : List Step) (added : List Reply) → ReadsLine size r1 r2 (record { bytes = line; ended = true })
      → ((lines : List Line) (more : List Reply) → script_output number size (record { log = s.log; replies = added ++ more }) (record { bytes = line; ended = true } ∷ lines)
      ≡ after_text text (script_output (number + 1) (size + length (line_bytes (record { bytes = line; ended = true }))) (record { log = log; replies = more }) lines))
      → IsProgress log grid2 after → AreTold log → Appends w1 w2 text → Stands r0 r2 w0 w2 grid2 after (number + 1) (size + length (line_bytes (record { bytes = line; ended = true })))
  goes_on w2 grid2 after line text log added reads step at is_told written =
      let piece = line_bytes (record { bytes = line; ended = true }) in
      record {
        done = s.done ++ piece;
        replies = s.replies ++ added;
        text = s.text ++ text;
        log = log;
        taken = Consumes-trans r0 r1 r2 s.done piece s.taken reads.taken;
        whole = ends_whole s.done line;
        written = Appends-trans w0 w1 w2 s.text text s.written written;
        goes = λ rest more.
            ap (λ d. written_by d ((s.replies ++ added) ++ more)) (append_assoc s.done piece rest)
            ∙ ap (written_by (s.done ++ (piece ++ rest))) (append_assoc s.replies added more)
            ∙ s.goes (piece ++ rest) (added ++ more)
            ∙ ap (λ ls. after_text s.text (script_output number size (record { log = s.log; replies = added ++ more }) ls)) (lines_ended line rest reads.lacks)
            ∙ ap (after_text s.text) (step (lines_of rest) more)
            ∙ after_after s.text text (script_output (number + 1) (size + length piece) (record { log = log; replies = more }) (lines_of rest));
        at = at;
        told = is_told;
        sized = length-append s.done piece ∙ ap (λ n. n + length piece) s.sized;
        within = fitting size line reads.within;
        counted = omega (arith, s.counted, length-append line (10 ∷ []));
      }
    where
      fitting : (size : ℕ) (line : List ℕ) → fits size (length line) true ≡ true → size + length (line ++ 10 ∷ []) ≤ 268435456
      fitting size line within = rw length-append (grind (arith, nat_tests))

  -- an empty one
  pub after_empty : (line : List ℕ) → ReadsLine size r1 r2 (record { bytes = line; ended = true }) → (length line == 0) ≡ true
      → Stands r0 r2 w0 w1 grid gateway (number + 1) (size + length (line_bytes (record { bytes = line; ended = true })))
  after_empty line reads empty =
      goes_on w1 grid gateway line [] s.log [] reads
      (λ lines more. told_empty number size (record { log = s.log; replies = more }) (record { bytes = line; ended = true }) lines reads.within empty) s.at s.told (Appends-nil w1)

  -- one that was answered
  pub after_line : (w2 : Option (List ℕ)) (grid2 : Option Grid) (after : Option State) (line : List ℕ) → ReadsLine size r1 r2 (record { bytes = line; ended = true }) → (length line == 0) ≡ false
      → RunGoesOn s.log line grid2 after w1 w2
      → Stands r0 r2 w0 w2 grid2 after (number + 1) (size + length (line_bytes (record { bytes = line; ended = true })))
  after_line w2 grid2 after line reads some on =
      goes_on w2 grid2 after line (answer_text on.step.reply) (s.log ++ on.step ∷ []) (on.step.reply ∷ []) reads
      (λ lines more. told_step number size s.log (record { bytes = line; ended = true }) lines on.step more false reads.within some on.is.asked on.goes)
      on.at on.is.told on.written
