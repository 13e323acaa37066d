use Rattle.std.proofs.Common.{◌≡◌}
use Rattle.redis_store.specs.Commands.{exists_below}
use Rattle.redis_store.proofs.commands.exist_below.Given as goal

abbrev pub invariant-loop-number : goal.invariant-loop-number
invariant-loop-number l = l.commands.items ≡ exists_below l.grid l.index l.number
