use Rattle.std.proofs.Common.{◌-◌, length}
use Rattle.json_view.specs.Listings.{IsCountedTo}
use Rattle.json_view.proofs.counting.count_short.Given as goal

abbrev pub invariant-loop-at : goal.invariant-loop-at
invariant-loop-at l = IsCountedTo l.last.items l.text l.at l.count

abbrev pub decreases-loop-at : goal.decreases-loop-at
decreases-loop-at l = length l.text - l.at
