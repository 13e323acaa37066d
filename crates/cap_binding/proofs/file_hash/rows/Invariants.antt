use Rattle.std.proofs.Common.{◌≡◌, map, take}
use Rattle.share_codec.specs.Segments.{segments}
use Rattle.cap_binding.specs.BlockHashes.{block_row}
use Rattle.cap_binding.proofs.file_hash.rows.Given as goal

abbrev pub invariant-loop-at : goal.invariant-loop-at
invariant-loop-at l = map (λ row. row.items) l.rows.items ≡ map (block_row l.params) (take l.at (segments l.params l.crypttext))
