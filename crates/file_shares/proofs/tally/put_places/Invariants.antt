use Rattle.std.proofs.Common.{◌≡◌, ◌++◌, take}
use Rattle.file_shares.specs.Gathered.{places_at}
use Rattle.file_shares.proofs.tally.put_places.Given as goal

abbrev pub invariant-loop-server : goal.invariant-loop-server
invariant-loop-server l = l.places.items ≡ l.initial.places.items ++ places_at l.number (take l.server-index l.servers)
