use Rattle.std.proofs.Common.{take, arith}
use Rattle.std.proofs.lemmas.Result.{err_from_is_err_and}
use Rattle.resp.specs.Reading.{text_step, text_at}
use Rattle.resp.proofs.Loops.{line_stops, line_is_read, line_breaks_off, text_goes, text_lf, text_long}
use Rattle.resp.proofs.lines.text_len.Goals as goal

pub returns-in_err-rest-clause-gives : goal.returns-in_err-rest-clause-gives
returns-in_err-rest-clause-gives c =
    let p = err_from_is_err_and c.from_residual.result c.from_residual.ensures.1 in
    rw (p.1, p.2) (line_stops (text_step c.args.limits) (take c.loop-at.at c.args.bytes.now) c.args.bytes.now c.loop-at.at c.in_err-rest.field-0.0
    (text_at c.args.limits c.args.bytes.now) c.loop-at-test.true c.if-byte-eq-CR.true c.in_err-rest.ensures c.loop-at.invariant)

pub returns-then-byte-eq-CR-clause-gives : goal.returns-then-byte-eq-CR-clause-gives
returns-then-byte-eq-CR-clause-gives c =
    line_is_read (text_step c.args.limits) (take c.loop-at.at c.args.bytes.now) c.args.bytes.now c.loop-at.at c.in_ok-rest.field-0-0 c.in_ok-rest.rest.now
    (text_at c.args.limits c.args.bytes.now) c.loop-at-test.true c.if-byte-eq-CR.true c.in_ok-rest.ensures c.loop-at.invariant

pub returns-then-byte-eq-LF-clause-gives : goal.returns-then-byte-eq-LF-clause-gives
returns-then-byte-eq-LF-clause-gives c =
    text_lf c.args.limits c.args.bytes.now c.loop-at.at (text_at c.args.limits c.args.bytes.now) c.loop-at-test.true c.if-byte-eq-LF.true c.loop-at.invariant

pub returns-then-at-limits-clause-gives : goal.returns-then-at-limits-clause-gives
returns-then-at-limits-clause-gives c =
    text_long c.args.limits c.args.bytes.now c.loop-at.at (text_at c.args.limits c.args.bytes.now) c.loop-at-test.true c.if-byte-eq-CR.false c.if-byte-eq-LF.false (omega arith) c.loop-at.invariant

pub loop-at-preserved : goal.loop-at-preserved
loop-at-preserved c =
    text_goes c.args.limits c.args.bytes.now c.loop-at.at (text_at c.args.limits c.args.bytes.now) c.loop-at-test.true c.if-byte-eq-CR.false c.if-byte-eq-LF.false (omega arith) c.loop-at.invariant

pub returns-clause-gives : goal.returns-clause-gives
returns-clause-gives c =
    line_breaks_off (text_step c.args.limits) (take c.loop-at.at c.args.bytes.now) c.args.bytes.now c.loop-at.at (text_at c.args.limits c.args.bytes.now) (omega arith) c.loop-at.invariant
