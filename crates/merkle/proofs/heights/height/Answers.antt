use Rattle.std.proofs.Common.{◌<◌, ◌≤◌, sym, subst, arith, below_more}
use Rattle.merkle.proofs.Levels.{height_is, shifted}
use Rattle.merkle.proofs.heights.height.Goals as goal

pub returns-then-count-levels : goal.returns-then-count-levels
returns-then-count-levels c =
    sym (height_is c.args.count c.loop-levels.levels (subst (λ n. c.args.count ≤ n) (shifted c.loop-levels.levels c.loop-levels-test.true) c.if-count-levels.true) c.loop-levels.invariant)

pub returns : goal.returns
returns c = sym (height_is c.args.count 64 (omega arith) (λ k few. c.loop-levels.invariant k (omega arith)))

pub loop-levels-preserved : goal.loop-levels-preserved
loop-levels-preserved c =
    below_more _ _ c.loop-levels.invariant (subst (λ n. n < c.args.count) (shifted c.loop-levels.levels c.loop-levels-test.true) c.if-count-levels.false)
