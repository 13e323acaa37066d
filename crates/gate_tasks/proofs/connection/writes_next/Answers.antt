use Rattle.std.proofs.lemmas.Result.{err_from_is_err_and}
use Rattle.gate_tasks.proofs.Turning.{call_stops}
use Rattle.gate_tasks.proofs.connection.writes_next.Goals as goal
use Rattle.gate_tasks.proofs.connection.writes_next.Goals.{then-eq+in_ok-advance, else-eq}

pub returns-in_err-advance-clause-err : goal.returns-in_err-advance-clause-err
returns-in_err-advance-clause-err g c =
    let p = err_from_is_err_and c.from_residual.result c.from_residual.ensures.1 in
    rw (p.1, p.2) (λ left after id secret first read before was. (
      c.flows_run.ensures.failed id secret first c.args.gateway.now c.advance.new.gateway c.args.flow.now c.advance.new.self read left before after was.run c.in_err-advance.ensures.err,
      call_stops c.in_err-advance.field-0.0 c.args.gateway.now c.advance.new.gateway c.advance.new.self id c.args.flow.now.id c.in_err-advance.ensures.faults was.run.same was.takes,
    ))

pub returns-clause-ok : goal.returns-clause-ok
returns-clause-ok g c left after id secret first read before was =
    elim c.if-eq.branch [
      | then-eq+in_ok-advance w ↦ rw (w.flow-is, w.gateway-is) (c.flows_run.ensures.advanced id secret first c.args.gateway.now w.advance.new.gateway c.args.flow.now w.advance.new.self read left before after was w.in_ok-advance.ensures.ok)
      | else-eq w ↦ rw (w.flow-is, w.gateway-is) was
    ]
