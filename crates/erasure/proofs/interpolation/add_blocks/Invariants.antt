use Rattle.erasure.specs.Given.{contents_of}
use Rattle.erasure.proofs.Combining.{Summed}
use Rattle.erasure.proofs.interpolation.add_blocks.Given as goal

abbrev pub invariant-loop-j : goal.invariant-loop-j
invariant-loop-j l = Summed l.places (contents_of l.blocks) l.x l.j l.sum
