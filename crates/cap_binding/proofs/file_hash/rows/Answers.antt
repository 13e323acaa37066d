use Rattle.std.proofs.Common.{take}
use Rattle.share_codec.specs.Segments.{segments}
use Rattle.cap_binding.specs.BlockHashes.{block_row}
use Rattle.cap_binding.proofs.Columns.{all_wide, length-block_row}
use Rattle.cap_binding.proofs.file_hash.rows.Goals as goal

pub returns-clause-wide : goal.returns-clause-wide
returns-clause-wide c =
    all_wide c.args.params.now.n (block_row c.args.params.now) (take c.loop-at.at (segments c.args.params.now c.args.crypttext.now)) c.loop-at.rows.items
    (length-block_row c.args.params.now) c.loop-at.invariant
