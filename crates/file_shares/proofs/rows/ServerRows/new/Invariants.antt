use Rattle.std.proofs.Common.{◌≡◌, map, take}
use Rattle.file_shares.specs.Gathered.{servers_by_number}
use Rattle.file_shares.proofs.rows.ServerRows.new.Given as goal

abbrev pub invariant-loop-server : goal.invariant-loop-server
invariant-loop-server l = map (λ row. row.items) l.rows.items ≡ servers_by_number l.n (take l.server-index l.places)
