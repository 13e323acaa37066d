use Rattle.std.proofs.Common.{◌≡◌, map}
use Rattle.std.specs.List.{range_with_len}
use Rattle.erasure.specs.Blocks.{block_of}
use Rattle.erasure.specs.Given.{contents_of}
use Rattle.cap_binding.proofs.block_hashes.coded.Given as goal

abbrev pub invariant-loop-number : goal.invariant-loop-number
invariant-loop-number l = map (λ block. block.items) l.blocks.items ≡ map (block_of (contents_of l.primary)) (range_with_len 0 l.number)
