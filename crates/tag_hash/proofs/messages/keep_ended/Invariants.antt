use Rattle.std.proofs.Common.{◌≡◌, ◌≢◌, ℕ, List, [], ◌<◌, length, slice_index, slice_index_or}
use Rattle.sha2.specs.Sha256.{digest_bytes}
use Rattle.tag_hash.specs.Lanes.{together}
use Rattle.tag_hash.proofs.messages.keep_ended.Given as goal

abbrev pub invariant-loop-j : goal.invariant-loop-j
invariant-loop-j g l = record {
  ended : (h : ℕ → List ℕ) (k : ℕ) → l.state ≡ together g.L.Words.of 8 h → k < l.j → k < g.L.Words.lanes → slice_index l.counts k ≡ l.n → slice_index_or l.digests k [] ≡ digest_bytes (h k) 8;
  others : (k : ℕ) → slice_index l.counts k ≢ l.n → slice_index_or l.digests k [] ≡ slice_index_or l.fn.digests k [];
  long : length l.digests ≡ 8;
}
