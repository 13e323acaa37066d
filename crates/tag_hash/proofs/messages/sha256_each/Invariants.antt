use Rattle.std.proofs.Common.{◌≡◌, ℕ, [], ◌++◌, ◌<◌, ◌≤◌, length, slice_index, slice_index_or}
use Rattle.sha2.specs.Sha256.{hash_after, initial_hash_256, padded_message, sha256}
use Rattle.tag_hash.specs.Lanes.{lane_bytes, together}
use Rattle.tag_hash.proofs.messages.sha256_each.Given as goal

abbrev pub invariant-loop-n : goal.invariant-loop-n
invariant-loop-n g l = record {
  taken : l.state ≡ together g.L.Words.of 8 (λ j. hash_after initial_hash_256 (padded_message (l.prefix ++ lane_bytes l.values j)) l.n);
  ended : (j : ℕ) → j < 8 → j < g.L.Words.lanes → slice_index l.counts j ≤ l.n → slice_index_or l.digests j [] ≡ sha256 (l.prefix ++ lane_bytes l.values j);
  long : length l.digests ≡ 8;
}
