use Rattle.std.proofs.Common.{◌+◌, ◌*◌, refl, ◌∙◌, arith}
use Rattle.erasure.proofs.Halves.{more_added}
use Rattle.erasure.proofs.kernel.add_whole.Goals as goal

pub loop-n-init : goal.loop-n-init
loop-n-init c = record { added = λ factor tables i ge lt. absurd (omega arith); rest = λ i le. refl }

pub loop-n-preserved : goal.loop-n-preserved
loop-n-preserved c = record {
  added = λ factor tables i ge lt.
      more_added factor c.args.src.now c.args.dst.now c.loop-n.dst c.add_products_at.new.dst 0 (32 * c.loop-n.n) (32 * c.loop-n.n + 32)
      (c.loop-n.invariant.added factor tables) c.loop-n.invariant.rest (c.add_products_at.ensures.added factor tables)
      c.add_products_at.ensures.below i ge (omega arith);
  rest = λ i le. c.add_products_at.ensures.above i (omega arith) ∙ c.loop-n.invariant.rest i (omega arith);
}

pub returns-clause-added : goal.returns-clause-added
returns-clause-added c = λ factor tables i ge lt. c.loop-n.invariant.added factor tables i ge (omega arith)

pub returns-clause-rest : goal.returns-clause-rest
returns-clause-rest c = λ i le. c.loop-n.invariant.rest i (omega arith)
