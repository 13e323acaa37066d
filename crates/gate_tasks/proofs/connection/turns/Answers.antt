use Rattle.std.proofs.Common.{refl}
use Rattle.std.proofs.lemmas.Result.{err_from_is_err_and, IfErr-weaker, IfErr-at_err}
use Rattle.gate_tasks.specs.Turns.{RunsInto}
use Rattle.gate_tasks.proofs.Turning.{begun_so, on_ok_all, unopened_stops}
use Rattle.gate_tasks.proofs.connection.turns.Goals as goal

pub returns-clause-ok : goal.returns-clause-ok
returns-clause-ok g c =
    on_ok_all c.take_turns-outcome.result c.take_turns-outcome.ensures.ok c.take_turns-outcome.ensures.rests c.take_turns-outcome.ensures.quiet (λ runs rests quiet.
    c.flows_run.ensures.served c.args.id c.args.gateway.now.settings.secret c.args.gateway.now c.take_turns-outcome.new.gateway c.close.new.gateway c.take_turns-outcome.new.flow (g.R.Read.remaining c.args.reader.now) (g.R.Read.remaining c.take_turns-outcome.new.reader) (g.W.Write.contents c.args.writer.now) (g.W.Write.contents c.take_turns-outcome.new.writer)
    (runs c.args.id c.args.gateway.now.settings.secret c.args.gateway.now (g.R.Read.remaining c.args.reader.now) (g.W.Write.contents c.args.writer.now) (begun_so c.args.id c.args.gateway.now.settings.secret c.args.gateway.now c.open.new.gateway c.in_ok-flow.flow (g.R.Read.remaining c.args.reader.now) (g.W.Write.contents c.args.writer.now) c.in_ok-flow.ensures.opened (c.flows_run.ensures.begun c.args.id c.args.gateway.now.settings.secret c.args.gateway.now c.open.new.gateway (g.R.Read.remaining c.args.reader.now) (g.W.Write.contents c.args.writer.now) c.in_ok-flow.ensures.led c.in_ok-flow.ensures.as_written c.in_ok-flow.ensures.takes))) c.close.ensures.sound rests quiet c.close.ensures.given_up)

pub returns-clause-err : goal.returns-clause-err
returns-clause-err g c =
    IfErr-weaker c.take_turns-outcome.result _ _ (λ fault runs.
    let stopped = runs c.args.id c.args.gateway.now.settings.secret c.args.gateway.now (g.R.Read.remaining c.args.reader.now) (g.W.Write.contents c.args.writer.now) (begun_so c.args.id c.args.gateway.now.settings.secret c.args.gateway.now c.open.new.gateway c.in_ok-flow.flow (g.R.Read.remaining c.args.reader.now) (g.W.Write.contents c.args.writer.now) c.in_ok-flow.ensures.opened (c.flows_run.ensures.begun c.args.id c.args.gateway.now.settings.secret c.args.gateway.now c.open.new.gateway (g.R.Read.remaining c.args.reader.now) (g.W.Write.contents c.args.writer.now) c.in_ok-flow.ensures.led c.in_ok-flow.ensures.as_written c.in_ok-flow.ensures.takes)) in
    c.flows_run.ensures.stopped c.args.id c.args.gateway.now.settings.secret c.args.gateway.now c.take_turns-outcome.new.gateway c.close.new.gateway c.take_turns-outcome.new.flow (g.R.Read.remaining c.args.reader.now) (g.R.Read.remaining c.take_turns-outcome.new.reader) (g.W.Write.contents c.args.writer.now) (g.W.Write.contents c.take_turns-outcome.new.writer) fault stopped.0 c.close.ensures.sound stopped.1 c.close.ensures.given_up)
    c.take_turns-outcome.ensures.err

pub returns-in_err-flow-clause-err : goal.returns-in_err-flow-clause-err
returns-in_err-flow-clause-err g c =
    let p = err_from_is_err_and c.from_residual.result c.from_residual.ensures.1 in
    rw (p.1, p.2) (unopened_stops _ c.in_err-flow.field-0.0 _ c.args.id c.args.gateway.now.settings.secret c.args.gateway.now c.open.new.gateway (g.R.Read.remaining c.args.reader.now) (g.W.Write.contents c.args.writer.now) refl c.in_err-flow.ensures.answer c.in_err-flow.ensures.err)

pub returns-clause-refused : goal.returns-clause-refused
returns-clause-refused g c = (
  (λ is.
      absurd (IfErr-at_err (λ fault. RunsInto fault c.in_ok-flow.flow c.take_turns-outcome.new.flow c.open.new.gateway c.take_turns-outcome.new.gateway (g.R.Read.remaining c.args.reader.now) (g.R.Read.remaining c.take_turns-outcome.new.reader) (g.W.Write.contents c.args.writer.now) (g.W.Write.contents c.take_turns-outcome.new.writer)) is
      c.take_turns-outcome.ensures.err c.args.id c.args.gateway.now.settings.secret c.args.gateway.now (g.R.Read.remaining c.args.reader.now) (g.W.Write.contents c.args.writer.now) (begun_so c.args.id c.args.gateway.now.settings.secret c.args.gateway.now c.open.new.gateway c.in_ok-flow.flow (g.R.Read.remaining c.args.reader.now) (g.W.Write.contents c.args.writer.now) c.in_ok-flow.ensures.opened (c.flows_run.ensures.begun c.args.id c.args.gateway.now.settings.secret c.args.gateway.now c.open.new.gateway (g.R.Read.remaining c.args.reader.now) (g.W.Write.contents c.args.writer.now) c.in_ok-flow.ensures.led c.in_ok-flow.ensures.as_written c.in_ok-flow.ensures.takes))).1),
  (λ used. absurd (used c.in_ok-flow.ensures.fresh)),
)
