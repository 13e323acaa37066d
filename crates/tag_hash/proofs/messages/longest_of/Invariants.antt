use Rattle.std.proofs.Common.{ℕ, ◌<◌, ◌≤◌, slice_index}
use Rattle.tag_hash.proofs.messages.longest_of.Given as goal

abbrev pub invariant-loop-j : goal.invariant-loop-j
invariant-loop-j l = record {
  each : (k : ℕ) → k < l.j → slice_index l.counts k ≤ l.most;
  below : (m : ℕ) → 0 < m → ((k : ℕ) → k < 8 → slice_index l.counts k < m) → l.most < m;
}
