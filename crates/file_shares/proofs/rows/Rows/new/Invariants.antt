use Rattle.std.proofs.Common.{◌≡◌, map, take}
use Rattle.std.specs.Rc.{rc_slice_items}
use Rattle.file_shares.specs.Gathered.{found_string, places_of, by_number}
use Rattle.file_shares.proofs.rows.Rows.new.Given as goal

abbrev pub invariant-loop-server : goal.invariant-loop-server
invariant-loop-server l = map (λ row. places_of row.items) l.rows.items ≡ by_number l.n (map (found_string rc_slice_items) (take l.server-index l.found))
