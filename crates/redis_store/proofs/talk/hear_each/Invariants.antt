use Rattle.std.proofs.Common.{◌≡◌, ◌≤◌, ◌++◌, ℕ, List, length, take}
use Rattle.resp.specs.Spelled.{SpellsReply, SpellsAll}
use Rattle.redis_store.specs.Exchanges.{with_heard}
use Rattle.redis_store.proofs.talk.hear_each.Given as goal

-- what came is behind what had come, and so many replies are spelled by what came up to the place
abbrev pub invariant-loop : goal.invariant-loop
invariant-loop g l = record {
  heard : (part : List ℕ) × (l.came.items ≡ l.fn.came.items ++ part) × (g.L.Link.talk l.link ≡ with_heard (g.L.Link.talk l.fn.link) part);
  within : l.start ≤ length l.came.items;
  spelled : SpellsAll (SpellsReply l.limits) l.replies.items (take l.start l.came.items);
  count : length l.replies.items ≡ l.counter;
}
