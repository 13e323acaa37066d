use Rattle.std.proofs.Common.{◌≡◌, map, take}
use Rattle.erasure.specs.Given.{contents_of}
use Rattle.cap_binding.proofs.block_hashes.slices.Given as goal

abbrev pub invariant-loop-block : goal.invariant-loop-block
invariant-loop-block l = contents_of l.slices.items ≡ map (λ block. block.items) (take l.block-index l.blocks)
