-- How a run ends.
use Rattle.std.proofs.Common.{◌≡◌, ◌≢◌, ℕ, ◌+◌, ◌-◌, ◌<◌, List, [], ◌∷◌, ◌++◌, length, take, Bool, true, false, All, Option, Some, None, Result, Ok, Err, refl, sym, ap, subst, ◌∙◌, append_assoc, length-append, arith, eqb-true, inl, inr}
use Rattle.std.specs.Prelude.{IfSome, OnSome, ◌==◌, ◌⊎◌}
use Rattle.std.specs.Io.KnownBytes.{Consumes, Appends, IsAtEnd}
use Rattle.std.proofs.KnownBytes.{Consumes-trans, Appends-trans}
use Rattle.std.proofs.lemmas.Bool.Decides.{nat_tests}
use Rattle.std.proofs.lemmas.List.{append-nil}
use Rattle.std.proofs.lemmas.List.Elements.{All-take}
use Rattle.std.proofs.Math.Seq.{take-append_seam}
use Rattle.gate_core.specs.ConnectionState.{State}
use Rattle.gate_tasks.specs.Command.{command_of}
use Rattle.gate_tasks.specs.Lines.{LacksLf, Line, lines_of, line_bytes, is_within}
use Rattle.gate_tasks.specs.Reading.{IsLineTooLong, ReadsLine, LineReads}
use Rattle.gate_tasks.specs.Script.{Step, Run, ScriptOutput, End, Ended, Stopped, allowed, ends_run, answer_text, after_text, stepped, asked_for, told_at, script_output, written_by}
use Rattle.gate_tasks.specs.Replies.{AreTold}
use Rattle.gate_tasks.specs.Running.{RunGoesOn, EndsAt, IsBad, WritesPart, LineRuns, IsOneLine, StopsAfter, Answers, AnswersSome, RunEnds}
use Rattle.gate_tasks.specs.declared.command.Command.{Command}
use Rattle.gate_tasks.specs.declared.command.Grid.{Grid}
use Rattle.gate_tasks.specs.declared.reply.Reply.{Reply}
use Rattle.gate_tasks.specs.declared.fault.ScriptFault.{ScriptFault}
use Rattle.gate_tasks.specs.declared.fault.ScriptFault.TheVariants.{BadLine, ReadFailed, WriteFailed, NoMemory, TooLong}
use Rattle.gate_tasks.proofs.LineLists.{lines_ended, lines_last, long_first}
use Rattle.gate_tasks.proofs.Stands.{Stands, told_some, told_step}

-- ---- known bytes

with_done : (r0 r1 : Option (List ℕ)) (done : List ℕ) (P : List ℕ → Type 0) → Consumes r0 r1 done → ((x y : List ℕ) → x ≡ done ++ y → P x) → IfSome r0 P
with_done None r1 done P taken k = tt
with_done (Some x) None done P taken k = absurd taken
with_done (Some x) (Some y) done P taken k = k x y taken

with_next : (r0 r1 : Option (List ℕ)) (done : List ℕ) (P Q : List ℕ → Type 0) → Consumes r0 r1 done → IfSome r1 Q → ((x y : List ℕ) → x ≡ done ++ y → Q y → P x) → IfSome r0 P
with_next None r1 done P Q taken next k = tt
with_next (Some x) None done P Q taken next k = absurd taken
with_next (Some x) (Some y) done P Q taken next k = k x y taken next

with_line : (r0 r1 r2 : Option (List ℕ)) (done : List ℕ) (line : Line) (P : List ℕ → Type 0) → Consumes r0 r1 done → Consumes r1 r2 (line_bytes line) → (line.ended ≡ false → OnSome r1 (IsAtEnd r2))
    → ((x z : List ℕ) → x ≡ done ++ (line_bytes line ++ z) → (line.ended ≡ false → z ≡ []) → P x) → IfSome r0 P
with_line None r1 r2 done line P taken next last k = tt
with_line (Some x) None r2 done line P taken next last k = absurd taken
with_line (Some x) (Some y) None done line P taken next last k = absurd next
with_line (Some x) (Some y) (Some z) done line P taken next last k = k x z (taken ∙ ap (λ l. done ++ l) next) last

at_end : (r0 r1 r2 : Option (List ℕ)) (done : List ℕ) → Consumes r0 r1 done → OnSome r1 (IsAtEnd r2) → OnSome r0 (IsAtEnd r2)
at_end None r1 r2 done taken last = tt
at_end (Some x) None r2 done taken last = absurd taken
at_end (Some x) (Some y) r2 done taken last = last

-- ---- what is known at an end

abbrev pub Both : Option (List ℕ) → Option (List ℕ) → Option (List ℕ) → Option (List ℕ) → Result (Unit {0}) ScriptFault → Type 0
Both r0 r2 w0 w2 result = RunEnds r0 r2 w0 w2 result × IfSome r0 (λ script. AnswersSome script w0 w2)

answers : (x : List ℕ) (replies : List Reply) (old new : Option (List ℕ)) (text : List ℕ) (log : List Step) (end : End) → written_by x replies ≡ record { text = text; log = log; end = end } → AreTold log → Appends old new text → Answers x old new end
answers x replies old new text log end is is_told written =
    record { replies = replies; told = subst AreTold (sym (ap (λ t. t.log) is)) is_told; ends = ap (λ t. t.end) is; written = subst (Appends old new) (sym (ap (λ t. t.text) is)) written }

-- what was written is all of the answers
whole : (x : List ℕ) (old new : Option (List ℕ)) (end : End) → Answers x old new end → AnswersSome x old new
whole x old new end a =
    let text = (written_by x a.replies).text in
    record { replies = a.replies; told = a.told; written = record { beginning = text; rest = []; begins = sym (append-nil text); written = a.written } }

-- what was written is a beginning of the answers
part : (x : List ℕ) (replies : List Reply) (old new : Option (List ℕ)) (text rest : List ℕ) (log : List Step) (end : End) → written_by x replies ≡ record { text = text ++ rest; log = log; end = end } → AreTold log → Appends old new text
    → AnswersSome x old new
part x replies old new text rest log end is is_told written =
    record {
      replies = replies;
      told = subst AreTold (sym (ap (λ t. t.log) is)) is_told;
      written = record { beginning = text; rest = rest; begins = ap (λ t. t.text) is; written = written };
    }

-- without replies no step is added
log_at : (within empty : Bool) (number : ℕ) (log : List Step) (line : List ℕ) (more : Run → ScriptOutput) → (more (record { log = log; replies = [] })).log ≡ log
    → (told_at within empty number (record { log = log; replies = [] }) line more).log ≡ log
log_at false empty number log line more same = refl
log_at true true number log line more same = same
log_at true false number log line more same = log_asked (allowed log (command_of line))
  where
    log_asked : (asked : Option Command) → (asked_for number (record { log = log; replies = [] }) asked more).log ≡ log
    log_asked None = refl
    log_asked (Some asked) = refl

log_same : (number size : ℕ) (log : List Step) (lines : List Line) → (script_output number size (record { log = log; replies = [] }) lines).log ≡ log
log_same number size log [] = refl
log_same number size log (line ∷ lines) =
    log_at (is_within size line) (length line.bytes == 0) number log line.bytes (λ after. script_output (number + 1) (size + length (line_bytes line)) after lines)
    (log_same (number + 1) (size + length (line_bytes line)) log lines)

abbrev tail_lines : Bool → List ℕ → List Line
tail_lines true z = lines_of z
tail_lines false z = []

lines_at : (line z : List ℕ) (ended : Bool) → LacksLf line → 0 < length line → (ended ≡ false → z ≡ []) → lines_of (line_bytes (record { bytes = line; ended = ended }) ++ z) ≡ record { bytes = line; ended = ended } ∷ tail_lines ended z
lines_at line z true lacks some last = lines_ended line z lacks
lines_at line z false lacks some last = ap (λ r. lines_of ((line ++ []) ++ r)) (last refl) ∙ ap lines_of (append-nil (line ++ []) ∙ append-nil line) ∙ lines_last line lacks some

not_zero : (n : ℕ) → (n == 0) ≡ false → 0 < n
not_zero n h = grind (arith, nat_tests)

one_line : (line : List ℕ) (ended : Bool) → LacksLf line → IsOneLine (line_bytes (record { bytes = line; ended = ended }))
one_line line true lacks =
    let size : length (line ++ 10 ∷ []) - 1 ≡ length line = omega (arith, length-append line (10 ∷ [])) in
    subst (λ l. All (λ b. b ≢ 10) l) (sym (ap (λ n. take n (line ++ 10 ∷ [])) size ∙ take-append_seam line (10 ∷ []))) lacks
one_line line false lacks = All-take (λ b. b ≢ 10) (length (line ++ []) - 1) (line ++ []) (subst (λ l. All (λ b. b ≢ 10) l) (sym (append-nil line)) lacks)

-- a step, and then what the lines after it come to without replies
step_goes_at : (bad number size : ℕ) (log : List Step) (reply : Reply) (lines : List Line) (ends : Bool)
    → (rest : List ℕ) × ((end : End) × (stepped ends bad reply (record { log = log; replies = [] }) (λ after. script_output number size after lines) ≡ record { text = answer_text reply ++ rest; log = log; end = end }))
step_goes_at bad number size log reply lines true =
    ([], (Stopped (BadLine bad), ap (λ l. record { text = l; log = log; end = Stopped (BadLine bad) }) (sym (append-nil (answer_text reply)))))
step_goes_at bad number size log reply lines false =
    let t = script_output number size (record { log = log; replies = [] }) lines in
    (t.text, (t.end, ap (λ l. record { text = answer_text reply ++ t.text; log = l; end = t.end }) (log_same number size log lines)))

module _ (r0 r1 r2 w0 w1 : Option (List ℕ)) (grid : Option Grid) (gateway : Option State) (number size : ℕ) (s : Stands r0 r1 w0 w1 grid gateway number size) where
  comes : (x y : List ℕ) (more : List Reply) → x ≡ s.done ++ y → written_by x (s.replies ++ more) ≡ after_text s.text (script_output number size (record { log = s.log; replies = more }) (lines_of y))
  comes x y more is = ap (λ x. written_by x (s.replies ++ more)) is ∙ s.goes y more

  begun : IfSome r0 (λ script. AnswersSome script w0 w1)
  begun = with_done r0 r1 s.done (λ script. AnswersSome script w0 w1) s.taken
      (λ x y is.
      let t = script_output number size (record { log = s.log; replies = [] }) (lines_of y) in
      part x (s.replies ++ []) w0 w1 s.text t.text s.log t.end
      (comes x y [] is ∙ ap (λ l. record { text = s.text ++ t.text; log = l; end = t.end }) (log_same number size s.log (lines_of y))) s.told s.written)

  before_is : written_by s.done (s.replies ++ []) ≡ record { text = s.text; log = s.log; end = Ended }
  before_is = ap (λ d. written_by d (s.replies ++ [])) (sym (append-nil s.done)) ∙ s.goes [] [] ∙ ap (λ l. record { text = l; log = s.log; end = Ended }) (append-nil s.text)

  -- ---- a line was not read

  stops : (w2 : Option (List ℕ)) (P : List ℕ → Type 0) (part : List ℕ) → Consumes r1 r2 part → P part → Appends w0 w2 s.text → StopsAfter P r0 r2 w0 w2
  stops w2 P part taken stop written = record {
    before = s.done;
    part = part;
    taken = Consumes-trans r0 r1 r2 s.done part s.taken taken;
    whole = s.whole;
    stop = stop;
    replies = s.replies ++ [];
    told = subst AreTold (sym (ap (λ t. t.log) before_is)) s.told;
    good = ap (λ t. t.end) before_is;
    written = subst (Appends w0 w2) (sym (ap (λ t. t.text) before_is)) written;
  }

  too_long : (x y : List ℕ) → x ≡ s.done ++ y → IsLineTooLong size [] y → Answers x w0 w1 (Stopped TooLong)
  too_long x y is long =
      let first = long_first size y long.part.bytes long.part.ended s.within long.begins long.over in
      let run : Run = record { log = s.log; replies = [] } in
      answers x (s.replies ++ []) w0 w1 s.text s.log (Stopped TooLong)
      (comes x y [] is
      ∙ ap (λ ls. after_text s.text (script_output number size run ls)) first.lines
      ∙ ap (λ t. after_text s.text (told_at t (length first.line.bytes == 0) number run first.line.bytes (λ after. script_output (number + 1) (size + length (line_bytes first.line)) after first.more))) first.over
      ∙ ap (λ l. record { text = l; log = s.log; end = Stopped TooLong }) (append-nil s.text))
      s.told s.written

  pub ends_unread : (fault : ScriptFault) (line : List ℕ) → LineReads size r1 r2 (Err fault) line → Both r0 r2 w0 w1 (Err fault)
  ends_unread (BadLine n) line reads = absurd reads
  ends_unread ReadFailed line reads = (stops w1 LacksLf reads.part reads.taken reads.lacks s.written, begun)
  ends_unread WriteFailed line reads = absurd reads
  ends_unread NoMemory line reads = (stops w1 IsOneLine reads.part reads.taken (All-take (λ b. b ≢ 10) (length reads.part - 1) reads.part reads.lacks) s.written, begun)
  ends_unread TooLong line reads =
      (with_next r0 r1 s.done (λ script. Answers script w0 w1 (Stopped TooLong)) (IsLineTooLong size []) s.taken reads too_long, begun)

  -- ---- nothing is left

  empty_end : (line x z : List ℕ) → (length line == 0) ≡ true → x ≡ s.done ++ ((line ++ []) ++ z) → z ≡ [] → Answers x w0 w1 Ended
  empty_end line x z empty is last =
      let none : (line ++ []) ++ z ≡ [] = ap (λ r. (line ++ []) ++ r) last ∙ append-nil (line ++ []) ∙ append-nil line ∙ nothing line (eqb-true (length line) 0 empty) in
      answers x (s.replies ++ []) w0 w1 s.text s.log Ended
      (comes x ((line ++ []) ++ z) [] is ∙ ap (λ y. after_text s.text (script_output number size (record { log = s.log; replies = [] }) (lines_of y))) none
      ∙ ap (λ l. record { text = l; log = s.log; end = Ended }) (append-nil s.text))
      s.told s.written
    where
      nothing : (line : List ℕ) → length line ≡ 0 → line ≡ []
      nothing [] none = refl
      nothing (b ∷ line) none = absurd (omega arith)

  pub ends_empty : (line : List ℕ) → ReadsLine size r1 r2 (record { bytes = line; ended = false }) → (length line == 0) ≡ true → Both r0 r2 w0 w1 (Ok tt)
  ends_empty line reads empty = (
    (
      with_line r0 r1 r2 s.done (record { bytes = line; ended = false }) (λ script. Answers script w0 w1 Ended) s.taken reads.taken reads.last
          (λ x z is last. empty_end line x z empty is (last refl)),
      at_end r0 r1 r2 s.done s.taken (reads.last refl),
    ),
    begun,
  )

  -- ---- a line was carried out

  module _ (w2 : Option (List ℕ)) (line : List ℕ) (ended : Bool) (reads : ReadsLine size r1 r2 (record { bytes = line; ended = ended })) (some : (length line == 0) ≡ false) where
    -- what a script comes to that goes on with this line
    line_comes : (x z : List ℕ) (more : List Reply) → x ≡ s.done ++ (line_bytes (record { bytes = line; ended = ended }) ++ z) → (ended ≡ false → z ≡ [])
        → written_by x (s.replies ++ more) ≡ after_text s.text (script_output number size (record { log = s.log; replies = more }) (record { bytes = line; ended = ended } ∷ tail_lines ended z))
    line_comes x z more is last =
        comes x (line_bytes (record { bytes = line; ended = ended }) ++ z) more is
        ∙ ap (λ ls. after_text s.text (script_output number size (record { log = s.log; replies = more }) ls)) (lines_at line z ended reads.lacks (not_zero (length line) some) last)

    whole_line : (P : List ℕ → Type 0) → ((x z : List ℕ) → x ≡ s.done ++ (line_bytes (record { bytes = line; ended = ended }) ++ z) → (ended ≡ false → z ≡ []) → P x) → IfSome r0 P
    whole_line P k = with_line r0 r1 r2 s.done (record { bytes = line; ended = ended }) P s.taken reads.taken reads.last k

    bad_comes : IsBad s.log line w1 w2 → (x z : List ℕ) → x ≡ s.done ++ (line_bytes (record { bytes = line; ended = ended }) ++ z) → (ended ≡ false → z ≡ []) → Answers x w0 w2 (Stopped (BadLine number))
    bad_comes bad x z is last =
        answers x (s.replies ++ []) w0 w2 (s.text ++ []) s.log (Stopped (BadLine number))
        (line_comes x z [] is last
        ∙ ap (after_text s.text) (told_some number size (record { log = s.log; replies = [] }) (record { bytes = line; ended = ended }) (tail_lines ended z) None reads.within some bad.asked))
        s.told (Appends-trans w0 w1 w2 s.text [] s.written bad.written)

    ends_comes : EndsAt s.log line w1 w2 → (x z : List ℕ) → x ≡ s.done ++ (line_bytes (record { bytes = line; ended = ended }) ++ z) → (ended ≡ false → z ≡ []) → Answers x w0 w2 (Stopped (BadLine number))
    ends_comes e x z is last =
        answers x (s.replies ++ e.step.reply ∷ []) w0 w2 (s.text ++ answer_text e.step.reply) (s.log ++ e.step ∷ []) (Stopped (BadLine number))
        (line_comes x z (e.step.reply ∷ []) is last
        ∙ ap (after_text s.text) (told_step number size s.log (record { bytes = line; ended = ended }) (tail_lines ended z) e.step [] true reads.within some e.is.asked e.ends))
        e.is.told (Appends-trans w0 w1 w2 s.text (answer_text e.step.reply) s.written e.written)

    part_comes : WritesPart s.log line w1 w2 → (x z : List ℕ) → x ≡ s.done ++ (line_bytes (record { bytes = line; ended = ended }) ++ z) → (ended ≡ false → z ≡ []) → AnswersSome x w0 w2
    part_comes p x z is last =
        let text = answer_text p.step.reply in
        let goes = step_told p.step x z is last p.is.asked in
        part x (s.replies ++ p.step.reply ∷ []) w0 w2 (s.text ++ p.written.beginning) (p.written.rest ++ goes.0) (s.log ++ p.step ∷ []) goes.1.0
        (goes.1.1
        ∙ ap (λ l. record { text = l; log = s.log ++ p.step ∷ []; end = goes.1.0 })
        (ap (λ l. s.text ++ (l ++ goes.0)) p.written.begins ∙ ap (λ l. s.text ++ l) (append_assoc p.written.beginning p.written.rest goes.0) ∙ sym (append_assoc s.text p.written.beginning (p.written.rest ++ goes.0))))
        p.is.told (Appends-trans w0 w1 w2 s.text p.written.beginning s.written p.written.written)
      where
        step_told : (step : Step) (x z : List ℕ) → x ≡ s.done ++ (line_bytes (record { bytes = line; ended = ended }) ++ z) → (ended ≡ false → z ≡ []) → allowed s.log (command_of line) ≡ Some step.command
            → (rest : List ℕ) × ((end : End) × (written_by x (s.replies ++ step.reply ∷ []) ≡ record { text = s.text ++ (answer_text step.reply ++ rest); log = s.log ++ step ∷ []; end = end }))
        step_told step x z is last asked =
            let l : Line = record { bytes = line; ended = ended } in
            let goes = step_goes_at number (number + 1) (size + length (line_bytes l)) (s.log ++ step ∷ []) step.reply (tail_lines ended z) (ends_run step) in (
              goes.0,
              (
                goes.1.0,
                line_comes x z (step.reply ∷ []) is last
                    ∙ ap (after_text s.text) (told_step number size s.log l (tail_lines ended z) step [] (ends_run step) reads.within some asked refl ∙ goes.1.1),
              ),
            )

    nothing_written : Appends w1 w2 [] → Appends w0 w2 s.text
    nothing_written none = subst (Appends w0 w2) (append-nil s.text) (Appends-trans w0 w1 w2 s.text [] s.written none)

    bad_or_ends : IsBad s.log line w1 w2 ⊎ EndsAt s.log line w1 w2 → (x z : List ℕ) → x ≡ s.done ++ (line_bytes (record { bytes = line; ended = ended }) ++ z) → (ended ≡ false → z ≡ []) → Answers x w0 w2 (Stopped (BadLine number))
    bad_or_ends (inl bad) = bad_comes bad
    bad_or_ends (inr e) = ends_comes e

    pub ends_line : (grid2 : Option Grid) (after : Option State) (fault : ScriptFault) → LineRuns s.log number line grid2 after w1 w2 (Err fault) → Both r0 r2 w0 w2 (Err fault)
    ends_line grid2 after (BadLine n) runs =
        subst (λ n. Both r0 r2 w0 w2 (Err (BadLine n))) (sym runs.0) (
          whole_line (λ script. Answers script w0 w2 (Stopped (BadLine number))) (bad_or_ends runs.1),
          whole_line (λ script. AnswersSome script w0 w2) (λ x z is last. whole x w0 w2 (Stopped (BadLine number)) (bad_or_ends runs.1 x z is last)),
        )
    ends_line grid2 after ReadFailed runs = absurd runs
    ends_line grid2 after WriteFailed runs = (tt, whole_line (λ script. AnswersSome script w0 w2) (part_comes runs))
    ends_line grid2 after NoMemory runs = (
      stops w2 IsOneLine (line_bytes (record { bytes = line; ended = ended })) reads.taken (one_line line ended reads.lacks) (nothing_written runs),
      whole_line (λ script. AnswersSome script w0 w2) (λ x z is last.
          let t = script_output number size (record { log = s.log; replies = [] }) (record { bytes = line; ended = ended } ∷ tail_lines ended z) in
          part x (s.replies ++ []) w0 w2 s.text t.text s.log t.end
          (line_comes x z [] is last ∙ ap (λ l. record { text = s.text ++ t.text; log = l; end = t.end }) (log_same number size s.log (record { bytes = line; ended = ended } ∷ tail_lines ended z)))
          s.told (nothing_written runs)),
    )
    ends_line grid2 after TooLong runs = absurd runs

  -- the last line was answered
  last_comes : (w2 : Option (List ℕ)) (grid2 : Option Grid) (after : Option State) (line : List ℕ) (reads : ReadsLine size r1 r2 (record { bytes = line; ended = false })) (some : (length line == 0) ≡ false)
      → RunGoesOn s.log line grid2 after w1 w2 → (x z : List ℕ) → x ≡ s.done ++ (line_bytes (record { bytes = line; ended = false }) ++ z) → (false ≡ false → z ≡ []) → Answers x w0 w2 Ended
  last_comes w2 grid2 after line reads some on x z is last =
      let text = answer_text on.step.reply in
      answers x (s.replies ++ on.step.reply ∷ []) w0 w2 (s.text ++ text) (s.log ++ on.step ∷ []) Ended
      (line_comes w2 line false reads some x z (on.step.reply ∷ []) is last
      ∙ ap (after_text s.text) (told_step number size s.log (record { bytes = line; ended = false }) [] on.step [] false reads.within some on.is.asked on.goes)
      ∙ ap (λ l. record { text = s.text ++ l; log = s.log ++ on.step ∷ []; end = Ended }) (append-nil text))
      on.is.told (Appends-trans w0 w1 w2 s.text text s.written on.written)

  pub ends_last : (w2 : Option (List ℕ)) (grid2 : Option Grid) (after : Option State) (line : List ℕ) → ReadsLine size r1 r2 (record { bytes = line; ended = false }) → (length line == 0) ≡ false
      → RunGoesOn s.log line grid2 after w1 w2 → Both r0 r2 w0 w2 (Ok tt)
  ends_last w2 grid2 after line reads some on = (
    (
      with_line r0 r1 r2 s.done (record { bytes = line; ended = false }) (λ script. Answers script w0 w2 Ended) s.taken reads.taken reads.last (last_comes w2 grid2 after line reads some on),
      at_end r0 r1 r2 s.done s.taken (reads.last refl),
    ),
    with_line r0 r1 r2 s.done (record { bytes = line; ended = false }) (λ script. AnswersSome script w0 w2) s.taken reads.taken reads.last
        (λ x z is last. whole x w0 w2 Ended (last_comes w2 grid2 after line reads some on x z is last)),
  )
