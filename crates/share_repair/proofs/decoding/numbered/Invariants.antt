use Rattle.std.proofs.Common.{◌≡◌, take}
use Rattle.erasure.specs.Given.{numbered_of}
use Rattle.share_repair.specs.Decoded.{numbered_blocks}
use Rattle.share_repair.proofs.decoding.numbered.Given as goal

abbrev pub invariant-loop-share : goal.invariant-loop-share
invariant-loop-share l = numbered_of l.blocks.items ≡ numbered_blocks (take l.share-index l.shares) l.at
