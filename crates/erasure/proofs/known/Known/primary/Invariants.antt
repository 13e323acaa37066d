use Rattle.std.proofs.Common.{◌≡◌, map}
use Rattle.erasure.specs.Given.{blocks_of}
use Rattle.erasure.proofs.Coding.{places_of, first_blocks}
use Rattle.erasure.proofs.known.Known.primary.Given as goal

abbrev pub invariant-loop-j : goal.invariant-loop-j
invariant-loop-j l = map (λ b. b.items) l.primary.items ≡ first_blocks (places_of l.self) (blocks_of l.self) l.j
