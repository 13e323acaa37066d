use Rattle.std.proofs.Common.{◌≡◌, ◌+◌, length, false, true, None, Ok, Err, ap, sym, subst, ◌∙◌, rules, length-append, ◌++◌, [], ◌∷◌}
use Rattle.std.specs.Prelude.{◌==◌}
use Rattle.std.proofs.lemmas.Result.{err_from_is_err_and}
use Rattle.gate_tasks.specs.Reading.{ReadsLine}
use Rattle.gate_tasks.specs.Running.{LineRuns, RunGoesOn}
use Rattle.gate_tasks.proofs.Stands.{Stands, stands_first, after_empty, after_line}
use Rattle.gate_tasks.proofs.Ends.{Both, ends_unread, ends_empty, ends_line, ends_last}
use Rattle.gate_tasks.proofs.script.run_each.Goals.{then-not-is_empty+in_ok-run_line, else-not-is_empty}
use Rattle.gate_tasks.proofs.script.run_each.Goals as goal

pub loop-number-init : goal.loop-number-init
loop-number-init g c =
    let r = g.R.Read.remaining c.args.reader.now in
    let w = g.W.Write.contents c.args.writer.now in
    subst (λ grid. Stands r r w w grid c.args.progress.now.gateway 1 0) (sym c.requires.no_grid)
    (subst (λ gateway. Stands r r w w None gateway 1 0) (sym c.requires.no_gateway) (stands_first r w))

pub returns-in_err-ended : goal.returns-in_err-ended
returns-in_err-ended g c =
    let at = c.loop-number in
    let p = err_from_is_err_and c.from_residual.result c.from_residual.ensures.1 in
    let ends =
    ends_unread (g.R.Read.remaining c.args.reader.now) (g.R.Read.remaining at.reader) (g.R.Read.remaining c.read_line.new.reader) (g.W.Write.contents c.args.writer.now) (g.W.Write.contents at.writer)
    at.progress.grid at.progress.gateway at.number at.read at.invariant c.in_err-ended.field-0.0 c.read_line.new.line.items c.in_err-ended.ensures in
    rw (p.1, p.2) (record { ends = ends.0; beginning = ends.1 })

pub returns-in_err-run_line : goal.returns-in_err-run_line
returns-in_err-run_line g c =
    let at = c.loop-number in
    let line = c.read_line.new.line.items in
    let w1 = g.W.Write.contents at.writer in
    let w2 = g.W.Write.contents c.run_line.new.writer in
    let after = c.run_line.new.progress in
    let p = err_from_is_err_and c.from_residual-in_err-run_line.result c.from_residual-in_err-run_line.ensures.1 in
    let fault = c.in_err-run_line.field-0.0 in
    let some : (length line == 0) ≡ false = search rules in
    let runs = subst (λ l. LineRuns at.invariant.log at.number l after.grid after.gateway w1 w2 (Err fault)) c.deref.ensures.value (c.in_err-run_line.ensures at.invariant.log at.invariant.at at.invariant.told) in
    let ends =
    ends_line (g.R.Read.remaining c.args.reader.now) (g.R.Read.remaining at.reader) (g.R.Read.remaining c.read_line.new.reader) (g.W.Write.contents c.args.writer.now) w1
    at.progress.grid at.progress.gateway at.number at.read at.invariant w2 line c.in_ok-ended.ended c.in_ok-ended.ensures some after.grid after.gateway fault runs in
    rw (p.1, p.2) (record { ends = ends.0; beginning = ends.1 })

pub returns-then-not-ended : goal.returns-then-not-ended
returns-then-not-ended g c =
    let at = c.loop-number in
    let line = c.read_line.new.line.items in
    let r0 = g.R.Read.remaining c.args.reader.now in
    let r1 = g.R.Read.remaining at.reader in
    let r2 = g.R.Read.remaining c.read_line.new.reader in
    let w0 = g.W.Write.contents c.args.writer.now in
    let w1 = g.W.Write.contents at.writer in
    let reads = subst (λ e. ReadsLine at.read r1 r2 (record { bytes = line; ended = e })) c.if-not-ended.true c.in_ok-ended.ensures in
    let ends : Both r0 r2 w0 (g.W.Write.contents c.if-not-is_empty.writer) (Ok tt) = elim c.if-not-is_empty.branch [
      | then-not-is_empty+in_ok-run_line w ↦
          let w2 = g.W.Write.contents w.run_line.new.writer in
          let after = w.run_line.new.progress in
          let some : (length line == 0) ≡ false = search rules in
          let runs = subst (λ l. RunGoesOn at.invariant.log l after.grid after.gateway w1 w2) w.deref.ensures.value (w.in_ok-run_line.ensures at.invariant.log at.invariant.at at.invariant.told) in
          subst (λ v. Both r0 r2 w0 (g.W.Write.contents v) (Ok tt)) (sym w.writer-is)
          (ends_last r0 r1 r2 w0 w1 at.progress.grid at.progress.gateway at.number at.read at.invariant w2 after.grid after.gateway line reads some runs)
      | else-not-is_empty w ↦
          let empty : (length line == 0) ≡ true = search rules in
          subst (λ v. Both r0 r2 w0 (g.W.Write.contents v) (Ok tt)) (sym w.writer-is)
          (ends_empty r0 r1 r2 w0 w1 at.progress.grid at.progress.gateway at.number at.read at.invariant line reads empty)
    ] in
    record { ends = ends.0; beginning = ends.1 }

pub loop-number-preserved : goal.loop-number-preserved
loop-number-preserved g c =
    let at = c.loop-number in
    let line = c.read_line.new.line.items in
    let r0 = g.R.Read.remaining c.args.reader.now in
    let r1 = g.R.Read.remaining at.reader in
    let r2 = g.R.Read.remaining c.read_line.new.reader in
    let w0 = g.W.Write.contents c.args.writer.now in
    let w1 = g.W.Write.contents at.writer in
    let reads = subst (λ e. ReadsLine at.read r1 r2 (record { bytes = line; ended = e })) c.if-not-ended.false c.in_ok-ended.ensures in
    let counted : c.len.result ≡ length line = search rules in
    let size : length (line ++ 10 ∷ []) ≡ c.len.result + 1 = length-append line (10 ∷ []) ∙ ap (λ n. n + 1) (sym counted) in
    subst (λ n. Stands r0 r2 w0 (g.W.Write.contents c.if-not-is_empty.writer) c.if-not-is_empty.progress.grid c.if-not-is_empty.progress.gateway (at.number + 1) (at.read + n)) size (elim c.if-not-is_empty.branch [
      | then-not-is_empty+in_ok-run_line w ↦
          let w2 = g.W.Write.contents w.run_line.new.writer in
          let after = w.run_line.new.progress in
          let some : (length line == 0) ≡ false = search rules in
          let runs = subst (λ l. RunGoesOn at.invariant.log l after.grid after.gateway w1 w2) w.deref.ensures.value (w.in_ok-run_line.ensures at.invariant.log at.invariant.at at.invariant.told) in
          subst (λ v. Stands r0 r2 w0 (g.W.Write.contents v) c.if-not-is_empty.progress.grid c.if-not-is_empty.progress.gateway (at.number + 1) (at.read + length (line ++ 10 ∷ []))) (sym w.writer-is)
          (subst (λ q. Stands r0 r2 w0 w2 q.grid q.gateway (at.number + 1) (at.read + length (line ++ 10 ∷ []))) (sym w.progress-is)
          (after_line r0 r1 r2 w0 w1 at.progress.grid at.progress.gateway at.number at.read at.invariant w2 after.grid after.gateway line reads some runs))
      | else-not-is_empty w ↦
          let empty : (length line == 0) ≡ true = search rules in
          subst (λ v. Stands r0 r2 w0 (g.W.Write.contents v) c.if-not-is_empty.progress.grid c.if-not-is_empty.progress.gateway (at.number + 1) (at.read + length (line ++ 10 ∷ []))) (sym w.writer-is)
          (subst (λ q. Stands r0 r2 w0 w1 q.grid q.gateway (at.number + 1) (at.read + length (line ++ 10 ∷ []))) (sym w.progress-is)
          (after_empty r0 r1 r2 w0 w1 at.progress.grid at.progress.gateway at.number at.read at.invariant line reads empty))
    ])
