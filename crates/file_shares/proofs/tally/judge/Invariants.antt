use Rattle.std.proofs.Common.{◌≡◌, ◌++◌, take}
use Rattle.std.specs.Prelude.{is_some}
use Rattle.file_shares.specs.Row.{first_good}
use Rattle.file_shares.specs.Check.{bad_places, good_places}
use Rattle.file_shares.specs.Gathered.{places_of}
use Rattle.file_shares.proofs.tally.judge.Given as goal

abbrev pub invariant-loop-server : goal.invariant-loop-server
invariant-loop-server l = record {
  any : l.any ≡ is_some (first_good l.params l.ueb l.number (places_of (take l.server-index l.found)));
  corrupt : l.corrupt.items ≡ l.initial.corrupt.items ++ bad_places l.params l.ueb l.number (places_of (take l.server-index l.found));
  places : l.places.items ≡ l.initial.places.items ++ good_places l.params l.ueb l.number (places_of (take l.server-index l.found));
}
