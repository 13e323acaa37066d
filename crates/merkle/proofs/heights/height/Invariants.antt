use Rattle.std.proofs.Common.{ℕ, ◌^◌, ◌<◌}
use Rattle.merkle.proofs.heights.height.Given as goal

abbrev pub invariant-loop-levels : goal.invariant-loop-levels
invariant-loop-levels l = (k : ℕ) → k < l.levels → 2 ^ k < l.count
