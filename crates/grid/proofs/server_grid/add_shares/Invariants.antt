use Rattle.std.proofs.Common.{◌≡◌, ◌++◌, map}
use Rattle.std.specs.Rc.{rc_slice_items}
use Rattle.share_store.specs.NumberedShares.{numbered_bytes}
use Rattle.grid.specs.Found.{found_bytes, of_server}
use Rattle.grid.proofs.server_grid.add_shares.Given as goal

abbrev pub invariant-loop-number : goal.invariant-loop-number
invariant-loop-number l = map (found_bytes rc_slice_items) l.found.items ≡ map (found_bytes rc_slice_items) l.fn.found.items ++ map (of_server l.server) (map (numbered_bytes rc_slice_items) l.yielded)
