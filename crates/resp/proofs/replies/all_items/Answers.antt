use Rattle.std.proofs.lemmas.Result.{err_from_is_err_and}
use Rattle.std.specs.Prelude.{IsOk}
use Rattle.resp.specs.Reading.{all_at, item_at}
use Rattle.resp.proofs.Loops.{goes_on, ends, is_done}
use Rattle.resp.proofs.replies.all_items.Goals as goal

pub returns-in_err-read : goal.returns-in_err-read
returns-in_err-read c =
    let p = err_from_is_err_and c.from_residual.result c.from_residual.ensures.1 in
    rw (p.1, p.2) (ends (IsOk (item_at c.args.limits c.loop.rest.now)) c.in_err-read.field-0.0 (item_at c.args.limits) c.loop.items.items c.args.count c.loop.counter c.loop.rest.now
    (all_at (item_at c.args.limits) c.args.count c.args.bytes.now) c.loop-test.true c.in_err-read.ensures c.loop.invariant)

pub loop-preserved : goal.loop-preserved
loop-preserved c =
    rw c.in_ok-push.ensures.items (goes_on (item_at c.args.limits) c.loop.items.items c.args.count c.loop.counter c.loop.rest.now c.in_ok-read.read c.in_ok-read.after.now
    (all_at (item_at c.args.limits) c.args.count c.args.bytes.now) c.loop-test.true c.in_ok-read.ensures c.loop.invariant)

pub returns : goal.returns
returns c = rw c.from_vec.ensures (is_done (item_at c.args.limits) c.loop.items.items c.args.count c.loop.counter c.loop.rest.now (all_at (item_at c.args.limits) c.args.count c.args.bytes.now) c.loop-test.false c.loop.invariant)
