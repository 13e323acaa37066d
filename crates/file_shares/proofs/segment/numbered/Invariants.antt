use Rattle.std.proofs.Common.{◌≡◌, take}
use Rattle.erasure.specs.Given.{numbered_of}
use Rattle.file_shares.specs.Fit.{blocks_at}
use Rattle.file_shares.proofs.segment.numbered.Given as goal

abbrev pub invariant-loop-share : goal.invariant-loop-share
invariant-loop-share l = numbered_of l.blocks.items ≡ blocks_at (take l.share-index l.shares) l.at
