use Rattle.std.proofs.lemmas.Result.{err_from_is_err_and}
use Rattle.gate_tasks.proofs.Parts.{stopped}
use Rattle.gate_tasks.proofs.lines.read_line.Goals as goal

pub returns-in_err-read_part : goal.returns-in_err-read_part
returns-in_err-read_part g c =
    let p = err_from_is_err_and c.from_residual.result c.from_residual.ensures.1 in
    rw (p.1, p.2) (stopped c.args.read _ _ _ _ _ _ c.loop.invariant.taken c.loop.invariant.lacks c.in_err-read_part.ensures)
