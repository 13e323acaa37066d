use Rattle.std.proofs.Common.{◌≡◌, map, take}
use Rattle.server_options.specs.Missing.{or_missing}
use Rattle.server_options.proofs.options.without.Given as goal

-- each store that was looked at, as it is wanted
abbrev pub invariant-loop-store : goal.invariant-loop-store
invariant-loop-store l = l.stores.items ≡ map (or_missing (map (λ path. path.now) l.missing)) (take l.store-index l.named)
