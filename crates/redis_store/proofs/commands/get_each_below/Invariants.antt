use Rattle.std.proofs.Common.{◌≡◌}
use Rattle.redis_store.specs.Commands.{get_below}
use Rattle.redis_store.proofs.commands.get_each_below.Given as goal

abbrev pub invariant-loop-number : goal.invariant-loop-number
invariant-loop-number l = l.commands.items ≡ get_below l.grid l.index l.number
