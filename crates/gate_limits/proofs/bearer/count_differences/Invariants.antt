use Rattle.std.proofs.Common.{◌≡◌, ℕ, ◌<◌, ◌≤◌, get_or}
use Rattle.gate_limits.proofs.bearer.count_differences.Given as goal

abbrev pub invariant-places : goal.invariant-places
invariant-places l = record {
  within : l.count ≤ l.at;
  same : l.count ≡ 0 → (k : ℕ) → k < l.at → get_or l.given k 0 ≡ get_or l.wanted k 0;
  other : l.given ≡ l.wanted → l.count ≡ 0;
}
