use Rattle.std.proofs.Common.{◌≡◌}
use Rattle.std.specs.List.{flat_map}
use Rattle.redis_store.specs.Exchanges.{with_exchange}
use Rattle.redis_store.proofs.talk.talk_parts.Given as goal

-- the parts were told, and what came was read
abbrev pub invariant-loop : goal.invariant-loop
invariant-loop g l = g.L.Link.talk l.link ≡ with_exchange (g.L.Link.talk l.fn.link) (flat_map (λ part. part.now) l.parts) l.came.items
