use Rattle.std.proofs.Common.{◌≡◌, ◌++◌, ℕ, List}
use Rattle.redis_store.specs.Exchanges.{with_heard}
use Rattle.redis_store.proofs.talk.hear_bulk.Given as goal

-- what came is behind what had come
abbrev pub invariant-loop : goal.invariant-loop
invariant-loop g l = (part : List ℕ) × (l.content.items ≡ l.begun ++ part) × (g.L.Link.talk l.link ≡ with_heard (g.L.Link.talk l.fn.link) part)
