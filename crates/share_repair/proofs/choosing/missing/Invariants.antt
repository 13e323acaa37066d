use Rattle.std.proofs.Common.{◌≡◌, ◌≤◌, ◌<◌, ℕ}
use Rattle.std.specs.Prelude.{Any}
use Rattle.grid.specs.Placement.{server_of}
use Rattle.share_repair.specs.Whole.{IsAtServer}
use Rattle.share_repair.proofs.choosing.missing.Given as goal

-- as long as none is missing, each number below this one is in its place
abbrev pub invariant-loop-number : goal.invariant-loop-number
invariant-loop-number l = record {
  few : l.missing ≤ l.number;
  none : l.missing ≡ 0 → (m : ℕ) → m < l.number → Any (IsAtServer l.label (server_of l.servers l.index m) m) l.judged;
}
