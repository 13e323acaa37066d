use Rattle.std.proofs.Common.{◌-◌, length}
use Rattle.json_view.specs.Listings.{AreChildrenPut}
use Rattle.json_view.specs.KeptSpellings.{AreSpellingsIn}
use Rattle.json_view.proofs.listing.put_from.Given as goal

abbrev pub invariant-loop-at : goal.invariant-loop-at
invariant-loop-at l = record {
  put : AreChildrenPut l.text l.later l.from l.fn.out.items l.out.items l.after l.at;
  kept : AreSpellingsIn l.text l.spellings.items;
}

abbrev pub decreases-loop-at : goal.decreases-loop-at
decreases-loop-at l = length l.text - l.at
