use Rattle.std.proofs.Common.{◌≡◌, ◌≤◌, length}
use Rattle.file_shares.specs.Gathered.{good_below, bad_below, places_below}
use Rattle.file_shares.proofs.tally.judge_each.Given as goal

abbrev pub invariant-loop-number : goal.invariant-loop-number
invariant-loop-number l = record {
  count : l.count ≡ length (good_below l.params l.ueb l.rows l.number);
  few : l.count ≤ l.number;
  corrupt : l.corrupt.items ≡ bad_below l.params l.ueb l.rows l.number;
  places : l.places.items ≡ places_below l.params l.ueb l.rows l.number;
}
