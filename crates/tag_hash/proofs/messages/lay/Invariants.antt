use Rattle.std.proofs.Common.{◌≡◌, ℕ, ◌+◌, ◌-◌, ◌<◌, ◌≤◌, length, slice_index}
use Rattle.tag_hash.proofs.messages.lay.Given as goal

abbrev pub invariant-loop-i : goal.invariant-loop-i
invariant-loop-i l = record {
  long : length l.block ≡ 64;
  done : (k : ℕ) → l.low ≤ k → k < l.i → slice_index l.block k ≡ slice_index l.source (l.at + k - l.from);
  below : (k : ℕ) → k < l.low → slice_index l.block k ≡ slice_index l.fn.block k;
  above : (k : ℕ) → l.i ≤ k → slice_index l.block k ≡ slice_index l.fn.block k;
}
