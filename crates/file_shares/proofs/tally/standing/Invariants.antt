use Rattle.std.proofs.Common.{◌≡◌, ◌≤◌, length}
use Rattle.file_shares.specs.Gathered.{some_below, standing_below}
use Rattle.file_shares.proofs.tally.standing.Given as goal

abbrev pub invariant-loop-number : goal.invariant-loop-number
invariant-loop-number l = record {
  count : l.count ≡ length (some_below l.rows l.number);
  few : l.count ≤ l.number;
  places : l.places.items ≡ standing_below l.rows l.number;
}
