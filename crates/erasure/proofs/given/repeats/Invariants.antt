use Rattle.erasure.specs.Given.{numbered_of, numbers_of}
use Rattle.erasure.proofs.Numbered.{Marks}
use Rattle.erasure.proofs.given.repeats.Given as goal

abbrev pub invariant-loop-number : goal.invariant-loop-number
invariant-loop-number l = Marks (numbers_of (numbered_of l.given)) l.seen l.number-index
