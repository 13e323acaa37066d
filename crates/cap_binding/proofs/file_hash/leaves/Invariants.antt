use Rattle.std.proofs.Common.{◌≡◌, map}
use Rattle.std.specs.List.{range_with_len}
use Rattle.merkle.specs.Tree.{root}
use Rattle.cap_binding.specs.BlockHashes.{hashes_of_share}
use Rattle.cap_binding.proofs.file_hash.leaves.Given as goal

abbrev pub invariant-loop-number : goal.invariant-loop-number
invariant-loop-number l = l.leaves.items ≡ map (λ i. root (hashes_of_share (map (λ row. row.items) l.rows) i)) (range_with_len 0 l.number)
