use Rattle.std.proofs.Common.{arith, below_more}
use Rattle.tag_hash.proofs.messages.longest_of.Goals as goal

pub loop-j-preserved : goal.loop-j-preserved
loop-j-preserved c = record {
  each = below_more _ _ (λ k lt. omega (arith, c.loop-j.invariant.each k lt)) (omega arith);
  below = λ m some small. omega (arith, c.loop-j.invariant.below m some small, small c.loop-j.j (omega arith));
}
