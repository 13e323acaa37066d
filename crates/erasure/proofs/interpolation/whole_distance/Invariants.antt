use Rattle.std.proofs.Common.{◌≡◌, bit_xor, slice_index}
use Rattle.erasure.specs.Blocks.{mul_below}
use Rattle.erasure.proofs.interpolation.whole_distance.Given as goal

abbrev pub invariant-loop-place : goal.invariant-loop-place
invariant-loop-place l = l.product ≡ mul_below l.place-index (λ m. bit_xor l.x (slice_index l.places m))
