use Rattle.std.proofs.Common.{◌*◌, ◌+◌, arith}
use Rattle.std.proofs.lemmas.Result.{err_from_is_err_and}
use Rattle.gate_tasks.specs.Turns.{most_at_a_time, most_read}
use Rattle.gate_tasks.proofs.Turning.{read_rests, none_read, read_on}
use Rattle.gate_tasks.proofs.connection.take_turns.Goals as goal

pub reads-init : goal.reads-init
reads-init g c = record { runs = λ id secret first read before was. was; rests = c.requires.rests; quiet = c.requires.quiet; bounded = none_read 0 (g.R.Read.remaining c.args.reader.now) }

pub returns-in_err-read_once-clause-err : goal.returns-in_err-read_once-clause-err
returns-in_err-read_once-clause-err g c =
    let p = err_from_is_err_and c.from_residual.result c.from_residual.ensures.1 in
    rw (p.1, p.2) (λ id secret first read before was.
    ((c.flows_run.ensures.read id secret first c.reads.gateway c.reads.flow c.read_once.new.flow read (g.R.Read.remaining c.reads.reader) before (g.W.Write.contents c.reads.writer) (g.R.Read.remaining c.read_once.new.reader) (c.reads.invariant.runs id secret first read before was) c.in_err-read_once.ensures.read).run, c.in_err-read_once.ensures.stops c.reads.gateway c.reads.invariant.rests))

pub settle-requires : goal.settle-requires
settle-requires g c = read_rests c.reads.flow c.read_once.new.flow c.reads.gateway c.in_ok-read_once.ensures.next c.reads.invariant.rests

pub returns-in_err-settle-clause-err : goal.returns-in_err-settle-clause-err
returns-in_err-settle-clause-err g c =
    let p = err_from_is_err_and c.from_residual-in_err-settle.result c.from_residual-in_err-settle.ensures.1 in
    rw (p.1, p.2) (λ id secret first read before was.
    c.in_err-settle.ensures.err (g.R.Read.remaining c.read_once.new.reader) id secret first read before (c.flows_run.ensures.read id secret first c.reads.gateway c.reads.flow c.read_once.new.flow read (g.R.Read.remaining c.reads.reader) before (g.W.Write.contents c.reads.writer) (g.R.Read.remaining c.read_once.new.reader) (c.reads.invariant.runs id secret first read before was) c.in_ok-read_once.ensures.read))

pub reads-preserved : goal.reads-preserved
reads-preserved g c = record {
  runs = λ id secret first read before was. c.in_ok-settle.ensures.ok (g.R.Read.remaining c.read_once.new.reader) id secret first read before (c.flows_run.ensures.read id secret first c.reads.gateway c.reads.flow c.read_once.new.flow read (g.R.Read.remaining c.reads.reader) before (g.W.Write.contents c.reads.writer) (g.R.Read.remaining c.read_once.new.reader) (c.reads.invariant.runs id secret first read before was) c.in_ok-read_once.ensures.read);
  rests = c.in_ok-settle.ensures.rests;
  quiet = c.in_ok-settle.ensures.quiet;
  bounded = read_on (65536 * c.reads.done) most_at_a_time (65536 * (c.reads.done + 1)) (g.R.Read.remaining c.args.reader.now) (g.R.Read.remaining c.reads.reader) (g.R.Read.remaining c.read_once.new.reader) (omega arith) c.reads.invariant.bounded c.in_ok-read_once.ensures.bounded;
}

pub returns-in_err-read_once-clause-bounded : goal.returns-in_err-read_once-clause-bounded
returns-in_err-read_once-clause-bounded g c =
    read_on (65536 * c.reads.done) most_at_a_time most_read (g.R.Read.remaining c.args.reader.now) (g.R.Read.remaining c.reads.reader) (g.R.Read.remaining c.read_once.new.reader) (omega (arith, c.reads-test.true)) c.reads.invariant.bounded c.in_err-read_once.ensures.bounded

pub returns-in_err-settle-clause-bounded : goal.returns-in_err-settle-clause-bounded
returns-in_err-settle-clause-bounded g c =
    read_on (65536 * c.reads.done) most_at_a_time most_read (g.R.Read.remaining c.args.reader.now) (g.R.Read.remaining c.reads.reader) (g.R.Read.remaining c.read_once.new.reader) (omega (arith, c.reads-test.true)) c.reads.invariant.bounded c.in_ok-read_once.ensures.bounded
