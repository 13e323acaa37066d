use Rattle.gate_tasks.proofs.Stands.{Stands}
use Rattle.gate_tasks.proofs.script.run_each.Given as goal

-- the lines so far were read and answered
abbrev pub invariant-loop-number : goal.invariant-loop-number
invariant-loop-number g l =
    Stands (g.R.Read.remaining l.fn.reader) (g.R.Read.remaining l.reader) (g.W.Write.contents l.fn.writer) (g.W.Write.contents l.writer) l.progress.grid l.progress.gateway l.number l.read
