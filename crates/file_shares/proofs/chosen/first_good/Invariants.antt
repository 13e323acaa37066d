use Rattle.std.proofs.Common.{◌≡◌, take, None}
use Rattle.file_shares.specs.Row.{first_good}
use Rattle.file_shares.specs.Gathered.{places_of}
use Rattle.file_shares.proofs.chosen.first_good.Given as goal

abbrev pub invariant-loop-server : goal.invariant-loop-server
invariant-loop-server l = first_good l.params l.ueb l.number (places_of (take l.server-index l.places)) ≡ None
