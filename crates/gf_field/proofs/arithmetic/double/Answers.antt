use Rattle.gf_field.proofs.Steps.{low_double, high_double}
use Rattle.gf_field.proofs.arithmetic.double.Goals as goal

pub returns-then-a-lt128 : goal.returns-then-a-lt128
returns-then-a-lt128 c = low_double c.args.a c.if-a-lt128.true

pub returns-else-a-lt128 : goal.returns-else-a-lt128
returns-else-a-lt128 c = high_double c.args.a c.if-a-lt128.false c.ranges.a.fits
