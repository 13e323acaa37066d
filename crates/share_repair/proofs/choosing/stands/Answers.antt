use Rattle.std.proofs.Common.{sym, arith}
use Rattle.share_repair.proofs.choosing.stands.Goals as goal

pub returns-then-is_of : goal.returns-then-is_of
returns-then-is_of c is = (c.loop-one.one-index, c.one-item.result, c.loop-one-test.true, sym c.one-item.is, (omega arith, omega arith, c.if-is_of.ensures is))
