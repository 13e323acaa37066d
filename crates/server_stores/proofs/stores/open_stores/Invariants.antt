use Rattle.std.proofs.Common.{◌≡◌, length, take}
use Rattle.std.specs.Option.{option_map}
use Rattle.server_stores.specs.Kinds.{AreOfKinds}
use Rattle.server_stores.specs.Opened.{IsOpenedAs}
use Rattle.server_stores.proofs.stores.open_stores.Given as goal

-- each that was wanted before this one has its store
abbrev pub invariant-loop-wanted : goal.invariant-loop-wanted
invariant-loop-wanted g l =
    (length l.stores.items ≡ l.wanted-index)
    × AreOfKinds 0 (take l.wanted-index l.wanted-items) l.stores.items
    (λ server place on_redis. IsOpenedAs place.name.now (record l.fn.first { place = server }) (option_map (λ password. password.now) l.said) on_redis.grid on_redis.longest on_redis.connection.first)
