use Rattle.std.proofs.Common.{◌≡◌}
use Rattle.std.specs.Simd.{first_chunks}
use Rattle.erasure.specs.Given.{contents_of}
use Rattle.cap_binding.proofs.cut.cut.Given as goal

abbrev pub invariant-loop-at : goal.invariant-loop-at
invariant-loop-at l = contents_of l.pieces.items ≡ first_chunks l.size l.at l.bytes
