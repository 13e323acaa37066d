use Rattle.aes_ctr.proofs.TableLemmas.{low_double, high_double}
use Rattle.aes_ctr.proofs.schedule.double.Goals as goal

pub returns-then-x-lt128 : goal.returns-then-x-lt128
returns-then-x-lt128 c = low_double c.args.x c.if-x-lt128.true

pub returns-else-x-lt128 : goal.returns-else-x-lt128
returns-else-x-lt128 c = high_double c.args.x c.if-x-lt128.false c.ranges.x.fits
