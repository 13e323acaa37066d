use Rattle.std.proofs.Common.{◌≡◌, map, take}
use Rattle.cap_binding.specs.BlockHashes.{hashes_of_share}
use Rattle.cap_binding.proofs.file_hash.share_hashes.Given as goal

abbrev pub invariant-loop-row : goal.invariant-loop-row
invariant-loop-row l = l.hashes.items ≡ hashes_of_share (map (λ row. row.items) (take l.row-index l.rows)) l.number
