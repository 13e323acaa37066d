use Rattle.std.proofs.Common.{◌+◌, take, arith}
use Rattle.std.proofs.KnownBytes.{Appends-kept}
use Rattle.octets.proofs.Writes.{write_more, within_more, stopped_at}
use Rattle.octets.proofs.writing.write_whole.Goals as goal

pub returns-then-calls-eq0-clause-err : goal.returns-then-calls-eq0-clause-err
returns-then-calls-eq0-clause-err g c = stopped_at _ _ c.args.bytes.now c.loop-written.written c.loop-written.invariant.done

pub returns-in-Ok-eq0-clause-err : goal.returns-in-Ok-eq0-clause-err
returns-in-Ok-eq0-clause-err g c =
    stopped_at _ _ c.args.bytes.now (c.loop-written.written + c.in-Ok-eq0.field-0)
    (write_more _ _ _ c.args.bytes.now c.loop-written.written c.in-Ok-eq0.field-0 c.loop-written.invariant.done c.in-Ok-eq0.ensures.bytes)

pub loop-written-preserved-in-Ok : goal.loop-written-preserved-in-Ok
loop-written-preserved-in-Ok g c = record {
  within = within_more c.args.bytes.now c.loop-written.written c.in-Ok.count c.loop-written.invariant.within c.in-Ok.ensures.bound;
  done = write_more _ _ _ c.args.bytes.now c.loop-written.written c.in-Ok.count c.loop-written.invariant.done c.in-Ok.ensures.bytes;
  fewer = omega arith;
}

pub returns-then-ne-clause-err : goal.returns-then-ne-clause-err
returns-then-ne-clause-err g c = stopped_at _ _ c.args.bytes.now c.loop-written.written (Appends-kept _ _ _ (take c.loop-written.written c.args.bytes.now) c.loop-written.invariant.done c.in-Err.ensures.bytes)
