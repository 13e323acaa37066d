use Rattle.std.proofs.Common.{◌≡◌, map, take}
use Rattle.std.specs.Rc.{rc_slice_items}
use Rattle.file_shares.specs.Gathered.{found_string}
use Rattle.file_shares.proofs.ready.are_same.Given as goal

abbrev pub invariant-loop-at : goal.invariant-loop-at
invariant-loop-at l = map (found_string rc_slice_items) (take l.at l.some) ≡ map (found_string rc_slice_items) (take l.at l.others)
