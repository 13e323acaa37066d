use Rattle.std.proofs.Common.{◌≡◌, ℕ, ◌<◌, length, [], slice_index_or}
use Rattle.erasure.specs.Blocks.{size_of}
use Rattle.erasure.specs.Given.{numbered_of, blocks_of}
use Rattle.erasure.proofs.given.has_another_length.Given as goal

abbrev pub invariant-loop-block : goal.invariant-loop-block
invariant-loop-block l = (k : ℕ) → k < l.block-index
    → length (slice_index_or (blocks_of (numbered_of l.given)) k []) ≡ size_of (blocks_of (numbered_of l.given))
