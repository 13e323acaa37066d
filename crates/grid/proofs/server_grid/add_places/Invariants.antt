use Rattle.std.proofs.Common.{◌≡◌, ◌++◌, map}
use Rattle.grid.proofs.server_grid.add_places.Given as goal

abbrev pub invariant-loop-number : goal.invariant-loop-number
invariant-loop-number l = l.places.items ≡ l.fn.places.items ++ map (λ number. (l.server, number)) l.yielded
