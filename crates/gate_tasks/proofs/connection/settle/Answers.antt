use Rattle.std.proofs.lemmas.Result.{err_from_is_err_and}
use Rattle.gate_tasks.proofs.Turning.{written_rests}
use Rattle.gate_tasks.proofs.connection.settle.Goals as goal

pub returns-then-not-branch-clause-ok : goal.returns-then-not-branch-clause-ok
returns-then-not-branch-clause-ok g c left id secret first read before was =
    c.in_ok-writes_next.ensures.ok left (g.W.Write.contents c.writes.writer) id secret first read before (c.writes.invariant.runs left id secret first read before was)

pub returns-in_err-writes_next-clause-err : goal.returns-in_err-writes_next-clause-err
returns-in_err-writes_next-clause-err g c =
    let p = err_from_is_err_and c.from_residual.result c.from_residual.ensures.1 in
    rw (p.1, p.2) (λ left id secret first read before was. c.in_err-writes_next.ensures.err left (g.W.Write.contents c.writes.writer) id secret first read before (c.writes.invariant.runs left id secret first read before was))

pub returns-in_err-write_once-clause-err : goal.returns-in_err-write_once-clause-err
returns-in_err-write_once-clause-err g c =
    let p = err_from_is_err_and c.from_residual-in_err-write_once.result c.from_residual-in_err-write_once.ensures.1 in
    rw (p.1, p.2) (λ left id secret first read before was. (
      (c.flows_run.ensures.wrote id secret first c.writes_next.new.gateway c.writes_next.new.flow c.write_once.new.flow read left before (g.W.Write.contents c.writes.writer) (g.W.Write.contents c.write_once.new.writer)
          (c.in_ok-writes_next.ensures.ok left (g.W.Write.contents c.writes.writer) id secret first read before (c.writes.invariant.runs left id secret first read before was)) c.in_err-write_once.ensures.wrote).run,
      c.in_err-write_once.ensures.stops c.writes_next.new.gateway,
    ))

pub writes-preserved : goal.writes-preserved
writes-preserved g c = record {
  runs = λ left id secret first read before was. c.flows_run.ensures.wrote id secret first c.writes_next.new.gateway c.writes_next.new.flow c.write_once.new.flow read left before (g.W.Write.contents c.writes.writer) (g.W.Write.contents c.write_once.new.writer)
      (c.in_ok-writes_next.ensures.ok left (g.W.Write.contents c.writes.writer) id secret first read before (c.writes.invariant.runs left id secret first read before was)) c.in_ok-write_once.ensures.wrote;
  rests = written_rests c.write_once.new.flow c.writes_next.new.gateway c.in_ok-write_once.ensures.next;
}

pub returns-in_err-writes_next-2-clause-err : goal.returns-in_err-writes_next-2-clause-err
returns-in_err-writes_next-2-clause-err g c =
    let p = err_from_is_err_and c.from_residual-in_err-writes_next-2.result c.from_residual-in_err-writes_next-2.ensures.1 in
    rw (p.1, p.2) (λ left id secret first read before was. c.in_err-writes_next-2.ensures.err left (g.W.Write.contents c.writes.writer) id secret first read before (c.writes.invariant.runs left id secret first read before was))

pub returns-then-branch-clause-err : goal.returns-then-branch-clause-err
returns-then-branch-clause-err g c left id secret first read before was = (
  (c.in_ok-writes_next-2.ensures.ok left (g.W.Write.contents c.writes.writer) id secret first read before (c.writes.invariant.runs left id secret first read before was)).run,
  (rw c.if-branch.true at c.in_ok-writes_next-2.ensures.writes).1,
)

pub returns-clause-ok : goal.returns-clause-ok
returns-clause-ok g c left id secret first read before was =
    c.in_ok-writes_next-2.ensures.ok left (g.W.Write.contents c.writes.writer) id secret first read before (c.writes.invariant.runs left id secret first read before was)
