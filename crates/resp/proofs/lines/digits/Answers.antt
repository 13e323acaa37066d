use Rattle.std.proofs.Common.{arith, sym}
use Rattle.std.proofs.lemmas.Result.{err_from_is_err_and}
use Rattle.resp.specs.declared.fault.ReadStop.TheVariants as stops
use Rattle.resp.specs.Reading.{span, digit_step}
use Rattle.resp.proofs.Loops.{line_stops, line_is_read, line_breaks_off, line_goes, line_fails, number_is, number_stops}
use Rattle.resp.proofs.lines.digits.Goals as goal

pub returns-in_err-rest-clause-gives : goal.returns-in_err-rest-clause-gives
returns-in_err-rest-clause-gives c =
    let p = err_from_is_err_and c.from_residual.result c.from_residual.ensures.1 in
    rw (p.1, p.2) (number_stops c.args.limits c.args.most (c.args.value, c.args.count) c.args.bytes.now c.in_err-rest.field-0.0
    (line_stops (digit_step c.args.limits c.args.most) (c.loop-at.value, c.loop-at.count) c.args.bytes.now c.loop-at.at c.in_err-rest.field-0.0
    (span (digit_step c.args.limits c.args.most) (c.args.value, c.args.count) c.args.bytes.now) c.loop-at-test.true c.if-byte-eq-CR.true c.in_err-rest.ensures c.loop-at.invariant.so_far))

pub returns-then-byte-eq-CR-clause-gives : goal.returns-then-byte-eq-CR-clause-gives
returns-then-byte-eq-CR-clause-gives c =
    number_is c.args.limits c.args.most c.loop-at.value c.loop-at.count (c.args.value, c.args.count) c.args.bytes.now c.in_ok-rest.rest.now
    (line_is_read (digit_step c.args.limits c.args.most) (c.loop-at.value, c.loop-at.count) c.args.bytes.now c.loop-at.at c.in_ok-rest.field-0-0 c.in_ok-rest.rest.now
    (span (digit_step c.args.limits c.args.most) (c.args.value, c.args.count) c.args.bytes.now) c.loop-at-test.true c.if-byte-eq-CR.true c.in_ok-rest.ensures c.loop-at.invariant.so_far)

pub returns-in-Err-clause-gives : goal.returns-in-Err-clause-gives
returns-in-Err-clause-gives c =
    number_stops c.args.limits c.args.most (c.args.value, c.args.count) c.args.bytes.now (stops.Wrong c.in-Err.wrong _)
    (line_fails (digit_step c.args.limits c.args.most) (c.loop-at.value, c.loop-at.count) c.args.bytes.now c.loop-at.at c.in-Err.wrong
    (span (digit_step c.args.limits c.args.most) (c.args.value, c.args.count) c.args.bytes.now) c.loop-at-test.true c.if-byte-eq-CR.false (sym c.in-Err.ensures.step) c.loop-at.invariant.so_far)

pub loop-at-preserved : goal.loop-at-preserved
loop-at-preserved c = record {
  so_far = line_goes (digit_step c.args.limits c.args.most) (c.loop-at.value, c.loop-at.count) (c.in-Ok.longer, c.in-Ok.more) c.args.bytes.now c.loop-at.at
      (span (digit_step c.args.limits c.args.most) (c.args.value, c.args.count) c.args.bytes.now) c.loop-at-test.true c.if-byte-eq-CR.false (sym c.in-Ok.ensures.step) c.loop-at.invariant.so_far;
  fits = c.in-Ok.ensures.fits;
}

pub returns-clause-gives : goal.returns-clause-gives
returns-clause-gives c =
    number_stops c.args.limits c.args.most (c.args.value, c.args.count) c.args.bytes.now stops.More
    (line_breaks_off (digit_step c.args.limits c.args.most) (c.loop-at.value, c.loop-at.count) c.args.bytes.now c.loop-at.at
    (span (digit_step c.args.limits c.args.most) (c.args.value, c.args.count) c.args.bytes.now) (omega arith) c.loop-at.invariant.so_far)
