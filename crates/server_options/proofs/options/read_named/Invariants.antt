use Rattle.std.proofs.Common.{map, take}
use Rattle.server_options.specs.Named.{AreNamesOf}
use Rattle.server_options.proofs.options.read_named.Given as goal

-- each text that was looked at names the store in its place
abbrev pub invariant-loop-name : goal.invariant-loop-name
invariant-loop-name l = AreNamesOf l.fn.room (map (λ s. s.now) (take l.name-index l.name-items)) l.stores.items
