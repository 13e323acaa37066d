use Rattle.std.proofs.Common.{◌≡◌, ◌≤◌, length}
use Rattle.file_shares.specs.Gathered.{good_below}
use Rattle.file_shares.proofs.chosen.chosen.Given as goal

abbrev pub invariant-loop-number : goal.invariant-loop-number
invariant-loop-number l = record {
  good : l.shares.items ≡ good_below l.params l.ueb l.rows l.number;
  few : length l.shares.items ≤ l.params.k;
}
